-- Records in a group, and whether there are any.
use Rattle.std.proofs.Common.{◌≡◌, ℕ, zero, suc, Bool, true, false, ◌||◌, List, [], ◌∷◌, Option, Some, None, slice_get, refl, ap, ◌∙◌}
use Rattle.std.specs.List.{cons_option, list_any, filter_map}
use Rattle.std.proofs.lemmas.Bool.{or_right}
use Rattle.mlr_groups.specs.Grouping.{texts_eq}
use Rattle.mlr_groups.proofs.PerGroup.{in_group}

any-first : (texts : List (List ℕ)) (own : Option (List (List ℕ))) (more : List (List (List ℕ)))
    → (elim own [ Some own ↦ texts_eq texts own | None ↦ false ] || list_any (texts_eq texts) more) ≡ list_any (texts_eq texts) (cons_option own more)
any-first texts None more = refl
any-first texts (Some own) more = refl

-- some record is in a group exactly if the group's texts are those of some record
pub any-members : {X : Type 0} (common : X → Option (List (List ℕ))) (texts : List (List ℕ)) (items : List X) → list_any (in_group common texts) items ≡ list_any (texts_eq texts) (filter_map common items)
any-members common texts [] = refl
any-members common texts (item ∷ items) =
    ap (λ t. in_group common texts item || t) (any-members common texts items) ∙ any-first texts (common item) (filter_map common items)

-- an element that passes a test
pub any-passes : {X : Type 0} (test : X → Bool) (xs : List X) (i : ℕ) (x : X) → slice_get xs i ≡ Some x → test x ≡ true → list_any test xs ≡ true
any-passes test [] i x at passes = absurd (let e : None ≡ Some x = at in cc)
any-passes test (y ∷ xs) zero x at passes =
    let e : y ≡ x = cc in
    ap (λ t. t || list_any test xs) (ap test e ∙ passes)
any-passes test (y ∷ xs) (suc i) x at passes = or_right (test y) (list_any test xs) (any-passes test xs i x at passes)

pub any-never : {X : Type 0} (test : X → Bool) (xs : List X) → ((x : X) → test x ≡ false) → list_any test xs ≡ false
any-never test [] never = refl
any-never test (x ∷ xs) never = ap (λ t. t || list_any test xs) (never x) ∙ any-never test xs never
