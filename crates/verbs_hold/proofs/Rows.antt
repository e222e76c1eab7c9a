-- Rows as events, changed and backwards.
use Rattle.std.proofs.Common.{◌≡◌, List, [], ◌∷◌, ◌++◌, map, reverse, refl, ap, ◌∙◌, sym}
use Rattle.std.proofs.lemmas.List.{map-append, reverse-append}
use Rattle.mlr_event.specs.declared.event.Event.TheVariants as event
use Rattle.verbs_base.specs.Records.{Fields, Row, events_of}
use Rattle.verbs_hold.specs.WithFields.{with_fields}

-- the records in events changed are the changed records as events
pub changed-rows : (change : Fields → Fields) (rows : List Row) → map (with_fields change) (events_of rows) ≡ events_of (map (λ row. (change row.0, row.1)) rows)
changed-rows change [] = refl
changed-rows change (row ∷ rows) = ap (λ events. event.Rec (change row.0) row.1 ∷ events) (changed-rows change rows)

pub backwards-rows : (rows : List Row) → reverse (events_of rows) ≡ events_of (reverse rows)
backwards-rows [] = refl
backwards-rows (row ∷ rows) =
    reverse-append (event.Rec row.0 row.1 ∷ []) (events_of rows)
    ∙ ap (λ events. events ++ event.Rec row.0 row.1 ∷ []) (backwards-rows rows)
    ∙ sym (map-append (λ row. event.Rec row.0 row.1) (reverse rows) (row ∷ []))
    ∙ ap events_of (sym (reverse-append (row ∷ []) rows))
