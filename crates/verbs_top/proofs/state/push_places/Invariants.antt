use Rattle.std.proofs.Common.{◌≡◌, ◌++◌, map}
use Rattle.std.specs.List.{range_with_len}
use Rattle.mlr_spec.specs.Pairs.{put_each}
use Rattle.verbs_base.specs.Records.{events_of}
use Rattle.verbs_top.specs.State.{made_fields, trees_in}
use Rattle.verbs_top.proofs.state.push_places.Given as goal

-- the records of the places so far
abbrev pub invariant-loop-place : goal.invariant-loop-place
invariant-loop-place l =
    l.out ≡ l.fn.out ++ events_of (map (λ place. (put_each l.first (made_fields l.options.output l.outputs (map trees_in l.lists) place), l.ctx)) (range_with_len 0 l.place))
