use Rattle.std.proofs.Common.{◌≡◌, drop, map}
use Rattle.mlr_spec.specs.Pairs.{put_each}
use Rattle.verbs_top.specs.State.{ints_at, made_fields, trees_in}
use Rattle.verbs_top.proofs.state.place_record.Given as goal

-- the fields so far, and those that remain
abbrev pub invariant-loop-column : goal.invariant-loop-column
invariant-loop-column l =
    put_each l.made (ints_at (drop l.column l.outputs) (drop l.column (map trees_in l.lists)) l.place)
    ≡ put_each l.first (made_fields l.output l.outputs (map trees_in l.lists) l.place)
