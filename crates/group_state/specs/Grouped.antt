-- Records with their contexts in groups.
use Rattle.std.specs.Prelude.{ℕ, List, map}
use Rattle.std.specs.List.{filter}
use Rattle.mlr_groups.specs.declared.group_by.GroupBy.{GroupBy}
use Rattle.mlr_groups.specs.Grouping.{groups_in, is_in}
use Rattle.verbs_base.specs.Records.{Row, records}

-- the records of a group, in their order
abbrev pub group_in : GroupBy → List Row → List (List ℕ) → List Row
group_in by rows texts = filter (λ row. is_in by texts row.0) rows

-- the groups, in the order in which they come first
abbrev pub grouped : GroupBy → List Row → List (List Row)
grouped by rows = map (group_in by rows) (groups_in by (records rows))
