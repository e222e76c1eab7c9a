-- Four hexadecimal digits and their number.
use Rattle.std.proofs.Common.{◌≡◌, ℕ, ◌+◌, ◌*◌, ◌<◌, ◌≤◌, Bool, true, cond, List, [], ◌∷◌, length, get_or, arith, ap, refl}
use Rattle.std.specs.List.{prefix_len}
use Rattle.std.proofs.lemmas.Bool.{ltb-true, ne_eqb}
use Rattle.std.proofs.lemmas.List.Sums.{prefix_len_passes, prefix_len-le-length}
use Rattle.mlr_spec.specs.Infer.{digit, number}
use Rattle.mlr_spec.specs.JsonTokens.{is_hex, is_raw}

pub digit-small : (text : List ℕ) (k : ℕ) → k < prefix_len is_hex text → digit (get_or text k 0) < 16
digit-small text k h = ltb-true _ 16 (prefix_len_passes is_hex text k 0 h)

pub number-of_four : (text : List ℕ) → length text ≡ 4 →
    number 16 text ≡ digit (get_or text 0 0) * 4096 + digit (get_or text 1 0) * 256 + digit (get_or text 2 0) * 16 + digit (get_or text 3 0)
number-of_four (a ∷ b ∷ c ∷ d ∷ []) h = omega arith
number-of_four [] h = absurd (omega arith)
number-of_four (a ∷ []) h = absurd (omega arith)
number-of_four (a ∷ b ∷ []) h = absurd (omega arith)
number-of_four (a ∷ b ∷ c ∷ []) h = absurd (omega arith)
number-of_four (a ∷ b ∷ c ∷ d ∷ e ∷ t) h = absurd (omega arith)

-- a run from the start on, where the first byte passes
pub prefix_len-within : (p : ℕ → Bool) (text : List ℕ) (n : ℕ) → 0 < length text → p (get_or text 0 0) ≡ true → n ≡ prefix_len p text → (1 ≤ n) × (n ≤ length text)
prefix_len-within p [] n some first e = absurd (omega arith)
prefix_len-within p (b ∷ text) n some first e =
    let whole : prefix_len p (b ∷ text) ≡ 1 + prefix_len p text = ap (λ t. cond t (1 + prefix_len p text) 0) first in
    (omega arith, omega (arith, prefix_len-le-length p (b ∷ text)))

pub is_raw-other : (b : ℕ) → (b ≡ 34 → ⊥) → (b ≡ 92 → ⊥) → is_raw b ≡ true
is_raw-other b quote backslash = rw (ne_eqb b 34 quote, ne_eqb b 92 backslash) refl
