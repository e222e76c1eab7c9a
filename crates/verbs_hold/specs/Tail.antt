-- `tail`: the last records, of all or of each group.
use Rattle.std.specs.Prelude.{ℕ, ◌-◌, List, [], drop, length}
use Rattle.std.specs.Option.{unwrap_or}
use Rattle.mlr_groups.specs.declared.group_by.GroupBy.TheVariants.{Texts}
use Rattle.verbs_base.specs.Records.{RecordVerb, Row}
use Rattle.group_state.specs.AtEnd.{by_groups}
use Rattle.verbs_hold.specs.declared.tail.Tail.{Tail}

-- the last records, or all where there are no more
abbrev pub last_rows : ℕ → List Row → List Row
last_rows count rows = drop (length rows - count) rows

-- without grouping fields all records are one group
abbrev pub tail : Tail → RecordVerb
tail options = by_groups (Texts (unwrap_or options.groups [])) (λ rows ctx. last_rows options.count rows)
