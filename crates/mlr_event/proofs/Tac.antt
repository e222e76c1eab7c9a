-- What the model verb `tac` gives.
use Rattle.std.proofs.Common.{◌≡◌, List, [], ◌∷◌, ◌++◌, refl, ap, sym}
use Rattle.std.specs.List.{flat_map}
use Rattle.mlr_event.specs.declared.event.Event.{Event}
use Rattle.mlr_event.specs.declared.event.Event.TheVariants as event
use Rattle.mlr_event.specs.Models.{Row, last_first, records-alone, row_of, tac, tac_gives}
use Rattle.mlr_event.specs.Verb.{gives}
use Rattle.mlr_event.proofs.Making.{no-fault, records-fault}

pub tac-gives : (before : List Event) (e : Event) → tac_gives (flat_map row_of before) e ≡ gives tac before e
tac-gives before (event.Rec fields ctx) = refl
tac-gives before (event.Text text) = refl
tac-gives before (event.Out target piece) = refl
tac-gives before (event.End ctx) =
    let rows = flat_map row_of before in
    sym (no-fault (last_first rows) (event.End ctx ∷ []) (records-fault (last_first rows) (records-alone rows)))
tac-gives before (event.Fault fault) = refl

-- one row more
pub last-pushed : (rows : List Row) (row : Row) → last_first (rows ++ row ∷ []) ≡ event.Rec row.0 row.1 ∷ last_first rows
last-pushed [] row = refl
last-pushed (first ∷ rows) row = ap (λ t. t ++ event.Rec first.0 first.1 ∷ []) (last-pushed rows row)
