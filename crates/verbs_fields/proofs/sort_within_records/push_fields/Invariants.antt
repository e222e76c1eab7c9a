use Rattle.std.proofs.Common.{◌≡◌, ◌++◌}
use Rattle.mlr_spec.specs.Tree.{fields_of}
use Rattle.mlr_record.specs.Fields.{pairs_of}
use Rattle.verbs_fields.specs.SortWithinRecords.{deep_pairs}
use Rattle.verbs_fields.proofs.sort_within_records.push_fields.Given as goal

-- the fields so far with the remaining ones sorted are all fields sorted
abbrev pub invariant-loop-field : goal.invariant-loop-field
invariant-loop-field l =
    pairs_of l.into.items ++ deep_pairs (fields_of (pairs_of l.field-iterator.rest.items)) ≡ pairs_of l.fn.into.items ++ deep_pairs (fields_of (pairs_of l.fn.fields.items))
