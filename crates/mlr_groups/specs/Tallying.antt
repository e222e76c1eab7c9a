-- The number of earlier records in a record's group.
use Rattle.std.specs.Prelude.{ℕ, ◌-◌, ◌^◌, min, List, length, Option}
use Rattle.std.specs.Option.{option_map}
use Rattle.mlr_groups.specs.declared.group_by.GroupBy.{GroupBy}
use Rattle.mlr_groups.specs.Grouping.{Fields, common_in, members}

-- a count is exact up to 2^63 - 1, and stays there
abbrev pub capped : ℕ → ℕ
capped n = min n (2 ^ 63 - 1)

-- the number of records in a group, by its texts
abbrev pub count_in : GroupBy → List Fields → List (List ℕ) → ℕ
count_in by records texts = capped (length (members by texts records))

-- the number of earlier records in the group of a record, if it is in one
abbrev pub tally : GroupBy → List Fields → Fields → Option ℕ
tally by before fields = option_map (count_in by before) (common_in by fields)
