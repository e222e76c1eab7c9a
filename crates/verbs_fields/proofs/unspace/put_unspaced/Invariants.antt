use Rattle.std.proofs.Common.{◌≡◌, map}
use Rattle.mlr_spec.specs.Pairs.{put_each}
use Rattle.mlr_record.specs.Fields.{pairs_of}
use Rattle.verbs_fields.specs.Unspace.{unspace, unspaced_field}
use Rattle.verbs_fields.proofs.unspace.put_unspaced.Given as goal

-- the record so far with the remaining fields set is the whole record
abbrev pub invariant-loop-field : goal.invariant-loop-field
invariant-loop-field l =
    put_each l.into (map (unspaced_field l.verb) (pairs_of l.field-iterator.rest.items)) ≡ unspace l.verb (pairs_of l.fn.fields.items)
