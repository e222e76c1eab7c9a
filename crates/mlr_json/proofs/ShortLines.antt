-- Line ends and blanks up to a level, as they are written at once.
use Rattle.std.proofs.Common.{◌≡◌, ℕ, zero, suc, ◌+◌, ◌*◌, ◌≤◌, List, ◌∷◌, ◌++◌, take, Result, Ok, Err, OnOk, is_ok, if◌then◌else◌, refl, ap, ◌∙◌, arith}
use Rattle.std.specs.Prelude.{codes}
use Rattle.mlr_spec.specs.Ascii.{comma}
use Rattle.mlr_spec.specs.Json.{new_line}

pub short-line : (level : ℕ) → level ≤ 7 → take (1 + 2 * level) (codes "\n              ") ≡ new_line level
short-line zero le = refl
short-line (suc zero) le = refl
short-line (suc (suc zero)) le = refl
short-line (suc (suc (suc zero))) le = refl
short-line (suc (suc (suc (suc zero)))) le = refl
short-line (suc (suc (suc (suc (suc zero))))) le = refl
short-line (suc (suc (suc (suc (suc (suc zero)))))) le = refl
short-line (suc (suc (suc (suc (suc (suc (suc zero))))))) le = refl
short-line (suc (suc (suc (suc (suc (suc (suc (suc level)))))))) le = absurd (omega arith)

pub short-gap : (level : ℕ) → level ≤ 7 → take (2 + 2 * level) (codes ",\n              ") ≡ comma ∷ new_line level
short-gap zero le = refl
short-gap (suc zero) le = refl
short-gap (suc (suc zero)) le = refl
short-gap (suc (suc (suc zero))) le = refl
short-gap (suc (suc (suc (suc zero)))) le = refl
short-gap (suc (suc (suc (suc (suc zero))))) le = refl
short-gap (suc (suc (suc (suc (suc (suc zero)))))) le = refl
short-gap (suc (suc (suc (suc (suc (suc (suc zero))))))) le = refl
short-gap (suc (suc (suc (suc (suc (suc (suc (suc level)))))))) le = absurd (omega arith)

-- what a call appends where it succeeds
pub appends-as : {T E : Type 0} (result : Result T E) (new old text wanted : List ℕ) → new ≡ (if is_ok result then old ++ text else old) → text ≡ wanted → OnOk result (new ≡ old ++ wanted)
appends-as (Ok x) new old text wanted is same = is ∙ ap (λ t. old ++ t) same
appends-as (Err e) new old text wanted is same = tt
