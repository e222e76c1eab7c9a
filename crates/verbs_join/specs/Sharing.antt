-- Names that the two sides of a pair share.
use Rattle.std.specs.Prelude.{ℕ, Bool, not, ◌&&◌, List}
use Rattle.std.specs.List.{list_any}
use Rattle.std.specs.Option.{is_some}
use Rattle.mlr_event.specs.Reading.{is_among}
use Rattle.mlr_spec.specs.Pairs.{value_at}
use Rattle.verbs_base.specs.Records.{Fields}

-- whether a record has the name of a field that another has outside its join fields
abbrev pub shares_name : Fields → List (List ℕ) → Fields → Bool
shares_name made join other = list_any (λ pair. not (is_among join pair.0) && is_some (value_at pair.0 made)) other
