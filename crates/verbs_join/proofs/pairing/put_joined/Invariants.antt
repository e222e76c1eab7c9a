use Rattle.std.proofs.Common.{◌≡◌, drop}
use Rattle.std.specs.List.{filter_map, zip}
use Rattle.mlr_spec.specs.Pairs.{put_each}
use Rattle.verbs_join.specs.Join.{joined, joined_field}
use Rattle.verbs_join.proofs.pairing.put_joined.Given as goal

-- the record so far, with the remaining join fields, is the whole
abbrev pub invariant-loop-place : goal.invariant-loop-place
invariant-loop-place l =
    put_each l.into (filter_map (joined_field l.left) (zip (drop l.place l.options.output) (drop l.place l.options.left)))
    ≡ put_each l.fn.into (joined l.options l.left)
