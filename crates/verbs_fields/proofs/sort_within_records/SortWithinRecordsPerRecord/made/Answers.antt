use Rattle.std.proofs.Common.{ap, ◌∙◌}
use Rattle.mlr_spec.specs.Pairs.{keys_of, are_distinct}
use Rattle.mlr_record.specs.Fields.{pairs_of}
use Rattle.verbs_fields.proofs.Deep.{deep_pairs-distinct}
use Rattle.verbs_fields.proofs.sort_within_records.SortWithinRecordsPerRecord.made.Goals as goal

pub record_by_name-requires : goal.record_by_name-requires
record_by_name-requires c =
    let all = c.into_fields-list.ensures in
    ap (λ pairs. are_distinct (keys_of pairs)) c.in_ok-list.ensures
    ∙ deep_pairs-distinct (pairs_of c.into_fields-list.result.items) (ap (λ pairs. are_distinct (keys_of pairs)) all.fields ∙ all.distinct)
