-- The earlier records of a record's group, which `cat`, `decimate` and `head` count.
use Rattle.std.specs.Prelude.{ℕ, List, [], Option}
use Rattle.std.specs.Option.{unwrap_or}
use Rattle.mlr_groups.specs.declared.group_by.GroupBy.TheVariants.{Texts}
use Rattle.mlr_groups.specs.declared.tallies.Tallies.{Tallies}
use Rattle.mlr_groups.specs.Represents.{TalliesOf}
use Rattle.mlr_groups.specs.Tallying.{tally}
use Rattle.verbs_base.specs.Records.{Fields}

-- The number of earlier records in a record's group, or none if the record has not all the grouping fields.
-- Without grouping fields all records are one group.
abbrev pub earlier : Option (List (List ℕ)) → List Fields → Fields → Option ℕ
earlier groups before fields = tally (Texts (unwrap_or groups [])) before fields

-- the tallies of these records, by their groups
abbrev pub AreCounted : Option (List (List ℕ)) → List Fields → Tallies → Type 0
AreCounted groups before tallies = TalliesOf (Texts (unwrap_or groups [])) before tallies
