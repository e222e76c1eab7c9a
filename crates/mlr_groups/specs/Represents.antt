-- The records that groups and tallies represent.
use Rattle.std.specs.Prelude.{◌≡◌, List, map}
use Rattle.mlr_groups.specs.declared.group_by.GroupBy.{GroupBy}
use Rattle.mlr_groups.specs.declared.groups.Groups.{Groups}
use Rattle.mlr_groups.specs.declared.tallies.Tallies.{Tallies}
use Rattle.mlr_groups.specs.Grouping.{Fields, groups_in}
use Rattle.mlr_groups.specs.Keys.{key_of}
use Rattle.mlr_groups.specs.Tallying.{count_in}

-- what the records of a group have in common
abbrev pub common_of : Groups → GroupBy
common_of groups = groups.by

-- the groups of the earlier records
abbrev pub GroupsOf : GroupBy → List Fields → Groups → Type 0
GroupsOf by before groups = (common_of groups ≡ by) × (groups.table ≡ map key_of (groups_in by before))

-- the groups of the earlier records, and the number of records in each
abbrev pub TalliesOf : GroupBy → List Fields → Tallies → Type 0
TalliesOf by before tallies = GroupsOf by before tallies.groups × (tallies.counts.items ≡ map (count_in by before) (groups_in by before))
