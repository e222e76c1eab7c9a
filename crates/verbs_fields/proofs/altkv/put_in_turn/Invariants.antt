use Rattle.std.proofs.Common.{◌≡◌, [], length}
use Rattle.mlr_spec.specs.Pairs.{put_each}
use Rattle.mlr_record.specs.Fields.{pairs_of}
use Rattle.verbs_fields.specs.Altkv.{in_turn}
use Rattle.verbs_fields.specs.Values.{values_of}
use Rattle.verbs_fields.proofs.altkv.put_in_turn.Given as goal

-- the record so far with the remaining values set is the whole record
abbrev pub invariant-loop-key : goal.invariant-loop-key
invariant-loop-key l =
    put_each l.into (in_turn l.last (values_of (pairs_of l.fields.rest.items))) ≡ put_each [] (in_turn l.last (values_of (pairs_of l.fn.fields.items)))

abbrev pub decreases-loop-key : goal.decreases-loop-key
decreases-loop-key l = length l.fields.rest.items
