-- What was taken, among all that the inputs hold.
use Rattle.std.proofs.Common.{◌≡◌, ℕ, ◌-◌, ◌<◌, true, false, List, [], ◌∷◌, ◌++◌, length, Option, Some, None, refl, ap, sym, subst, ◌∙◌, arith, length-append, inl, inr}
use Rattle.std.specs.Prelude.{drop, if◌then◌else◌, nat_le, take}
use Rattle.std.proofs.lemmas.Bool.{cases_Bool, false≢true, leb-true, lt-leb}
use Rattle.std.proofs.lemmas.List.{append-nil, take-append-drop, take-append-le}
use Rattle.mlr_event.specs.declared.names.InputName.{InputName}
use Rattle.mlr_world.specs.Inputs.{Contents}
use Rattle.mlr_world.specs.Taken.{Take}
use Rattle.read_files.specs.Takes.{ArePrefixesTaken, AreWhole, GoesOn, InOrder, TakeGoesOn, taken_by, total}
use Rattle.read_files.proofs.Steps.{take_of}

-- an input that was read to its end, before others
order-then : (name : InputName) (names : List InputName) (t : Take) (takes : List Take) → t.name ≡ name → t.ended ≡ true → InOrder names takes → InOrder (name ∷ names) (t ∷ takes)
order-then name names t [] same all order = same
order-then name names t (u ∷ takes) same all order = (same, all, order)

-- all that they hold is in their order
pub whole-order : (told : Contents) (names : List InputName) (whole : List Take) → AreWhole told names whole → InOrder names whole
whole-order told [] [] all = tt
whole-order told [] (t ∷ whole) all = absurd all
whole-order told (name ∷ names) [] all = absurd all
whole-order told (name ∷ names) (t ∷ whole) all = order-then name names t whole all.0 all.1 (whole-order told names whole all.3)

-- what so many bytes give, by what the first input holds
abbrev taken_of : Contents → InputName → List InputName → ℕ → Option (List ℕ) → List Take
taken_of told name names n held = elim held [
  | None ↦ []
  | Some bytes ↦ if nat_le (length bytes) n then take_of name true bytes ∷ taken_by told names (n - length bytes) else take_of name false (take n bytes) ∷ []
]

taken-all : (told : Contents) (name : InputName) (names : List InputName) (n : ℕ) (bytes : List ℕ) → told name ≡ Some bytes → nat_le (length bytes) n ≡ true
    → taken_by told (name ∷ names) n ≡ take_of name true bytes ∷ taken_by told names (n - length bytes)
taken-all told name names n bytes holds all =
    ap (taken_of told name names n) holds ∙ ap (λ b. if b then take_of name true bytes ∷ taken_by told names (n - length bytes) else take_of name false (take n bytes) ∷ []) all

taken-part : (told : Contents) (name : InputName) (names : List InputName) (n : ℕ) (bytes : List ℕ) → told name ≡ Some bytes → nat_le (length bytes) n ≡ false → taken_by told (name ∷ names) n ≡ take_of name false (take n bytes) ∷ []
taken-part told name names n bytes holds part =
    ap (taken_of told name names n) holds ∙ ap (λ b. if b then take_of name true bytes ∷ taken_by told names (n - length bytes) else take_of name false (take n bytes) ∷ []) part

-- an input extends a prefix of it
part-on : (name : InputName) (n : ℕ) (t : Take) → t.name ≡ name → TakeGoesOn (take_of name false (take n t.bytes)) t
part-on name n t same = (same, (drop n t.bytes, sym (take-append-drop n t.bytes), λ e. absurd (false≢true e)))

-- what was taken extends what fewer bytes give
pub taken-early : (told : Contents) (names : List InputName) (given : List Take) (n : ℕ) → InOrder names given → ArePrefixesTaken told given → n < total given
    → GoesOn (taken_by told names n) given × InOrder names (taken_by told names n)
taken-early told [] given n order prefixes less = (tt, tt)
taken-early told (name ∷ names) [] n order prefixes less = absurd (omega (arith, less))
taken-early told (name ∷ names) (t ∷ []) n order prefixes less =
    let prefix = prefixes.0 in
    let holds : told name ≡ Some (t.bytes ++ prefix.0) = ap told (sym order) ∙ prefix.1 in
    let part : nat_le (length (t.bytes ++ prefix.0)) n ≡ false = lt-leb (length (t.bytes ++ prefix.0)) n (omega (arith, less, length-append t.bytes prefix.0)) in
    let is : taken_by told (name ∷ names) n ≡ take_of name false (take n t.bytes) ∷ [] =
    taken-part told name names n (t.bytes ++ prefix.0) holds part ∙ ap (λ b. take_of name false b ∷ []) (take-append-le n t.bytes prefix.0 (omega (arith, less))) in
    subst (λ takes. GoesOn takes (t ∷ []) × InOrder (name ∷ names) takes) (sym is) ((part-on name n t order, tt), refl)
taken-early told (name ∷ names) (t ∷ next ∷ given) n order prefixes less =
    let prefix = prefixes.0 in
    let holds : told name ≡ Some t.bytes = ap told (sym order.0) ∙ prefix.1 ∙ ap (λ rest. Some (t.bytes ++ rest)) (prefix.2 order.1) ∙ ap Some (append-nil t.bytes) in
    elim (cases_Bool (nat_le (length t.bytes) n)) [
      | inl all ↦
          let rest = taken-early told names (next ∷ given) (n - length t.bytes) order.2 prefixes.1 (omega (arith, leb-true (length t.bytes) n all, less)) in
          subst (λ takes. GoesOn takes (t ∷ next ∷ given) × InOrder (name ∷ names) takes) (sym (taken-all told name names n t.bytes holds all))
          (((order.0, ([], sym (append-nil t.bytes), λ e. (refl, order.1))), rest.0), order-then name names (take_of name true t.bytes) (taken_by told names (n - length t.bytes)) refl refl rest.1)
      | inr part ↦
          subst (λ takes. GoesOn takes (t ∷ next ∷ given) × InOrder (name ∷ names) takes) (sym (taken-part told name names n t.bytes holds part))
          ((part-on name n t order.0, tt), refl)
    ]
