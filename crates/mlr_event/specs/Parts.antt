-- Records may be inside a list of events.
use Rattle.std.proofs.Common.{◌≡◌, true, false, not, ◌&&◌, ◌||◌, List, [], ◌∷◌, refl, ap₂}
use Rattle.std.specs.List.{list_any, list_all}
use Rattle.std.proofs.lemmas.Bool.{and_parts}
use Rattle.mlr_event.specs.declared.event.Event.{Event}
use Rattle.mlr_event.specs.declared.event.Event.TheVariants as event
use Rattle.mlr_event.specs.Verb.{is_end, is_last, is_list, is_part, is_record}

pub records-part : (xs : List Event) → list_all is_record xs ≡ true → is_part xs ≡ true
records-part xs all = ap₂ (λ a b. not a && b) (no-end xs all) (in-list xs all)
  where
    record-last : (x : Event) → is_record x ≡ true → (is_last x ≡ false) × (is_end x ≡ false)
    record-last (event.Rec fields ctx) is = (refl, refl)
    record-last (event.Text text) is = absurd (let e : false ≡ true = is in cc)
    record-last (event.Out target piece) is = absurd (let e : false ≡ true = is in cc)
    record-last (event.End ctx) is = absurd (let e : false ≡ true = is in cc)
    record-last (event.Fault fault) is = absurd (let e : false ≡ true = is in cc)

    no-end : (xs : List Event) → list_all is_record xs ≡ true → list_any is_end xs ≡ false
    no-end [] all = refl
    no-end (x ∷ xs) all = let parts = and_parts (is_record x) (list_all is_record xs) all in ap₂ (λ a b. a || b) (record-last x parts.0).1 (no-end xs parts.1)

    in-list : (xs : List Event) → list_all is_record xs ≡ true → is_list xs ≡ true
    in-list [] all = refl
    in-list (x ∷ []) all = refl
    in-list (x ∷ y ∷ xs) all = let parts = and_parts (is_record x) (list_all is_record (y ∷ xs)) all in ap₂ (λ a b. not a && b) (record-last x parts.0).0 (in-list (y ∷ xs) parts.1)
