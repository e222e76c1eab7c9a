-- The group of some texts, by the place of their key.
use Rattle.std.proofs.Common.{◌≡◌, ℕ, false, List, map, Option, Some, None, IfSome, slice_get, refl, sym, subst, ◌∙◌}
use Rattle.std.specs.List.{list_any}
use Rattle.std.specs.Option.{is_some}
use Rattle.mlr_event.specs.Reading.{is_among}
use Rattle.mlr_groups.specs.Finding.{IsFoundAt}
use Rattle.mlr_groups.specs.Grouping.{texts_eq}
use Rattle.mlr_groups.specs.Keys.{key_of}
use Rattle.mlr_groups.proofs.Grouping.{place-told}
use Rattle.mlr_groups.proofs.KeyTexts.{among-keys}

pub found-told : (groups : List (List (List ℕ))) (texts : List (List ℕ)) (place : Option ℕ) → is_some place ≡ is_among (map key_of groups) (key_of texts)
    → IfSome place (λ p. slice_get (map key_of groups) p ≡ Some (key_of texts)) → IsFoundAt groups (Some texts) place
found-told groups texts None found at = λ own is. (
    let e : texts ≡ own = cc in
    subst (λ own. list_any (texts_eq own) groups ≡ false) e (sym (among-keys texts groups) ∙ sym found)
    )
found-told groups texts (Some p) found at = (texts, refl, place-told groups p texts at)
