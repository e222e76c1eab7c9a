use Rattle.std.proofs.Common.{◌≡◌}
use Rattle.mlr_spec.specs.Pairs.{put_each}
use Rattle.mlr_record.specs.Fields.{pairs_of}
use Rattle.verbs_fields.proofs.sort_within_records.put_pairs.Given as goal

-- the map so far with the remaining pairs set is the whole map
abbrev pub invariant-loop-field : goal.invariant-loop-field
invariant-loop-field l = put_each l.into (pairs_of l.field-iterator.rest.items) ≡ pairs_of l.fn.pairs.items
