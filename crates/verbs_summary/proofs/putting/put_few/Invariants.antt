use Rattle.std.proofs.Common.{◌≡◌}
use Rattle.mlr_record.specs.Fields.{pairs_of}
use Rattle.mlr_spec.specs.Pairs.{put_each}
use Rattle.verbs_summary.proofs.putting.put_few.Given as goal

-- the record so far, with the remaining fields, is the whole
abbrev pub invariant-loop-field : goal.invariant-loop-field
invariant-loop-field l = put_each l.into (pairs_of l.field-iterator.rest.items) ≡ put_each l.fn.into (pairs_of l.fn.fields.items)
