-- The items of a row's outcome.
use Rattle.std.specs.Prelude.{List, [], ◌∷◌}
use Rattle.mlr_event.specs.Reading.{Item, fields, fault}
use Rattle.read_csv.specs.declared.row_outcome.RowOutcome.{RowOutcome}
use Rattle.read_csv.specs.declared.row_outcome.RowOutcome.TheVariants as given

abbrev pub outcome_items : RowOutcome → List Item
outcome_items given.Nothing = []
outcome_items (given.Fields pairs) = fields pairs ∷ []
outcome_items (given.Fault f) = fault f ∷ []
