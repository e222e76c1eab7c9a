use Rattle.std.proofs.Common.{◌++◌, ap, ap₂, ◌∙◌}
use Rattle.std.proofs.lemmas.List.{map-append}
use Rattle.mlr_record.specs.Fields.{pair_of, pairs_of}
use Rattle.mlr_spec.specs.Pairs.{are_distinct, keys_of}
use Rattle.verbs_join.proofs.Moving.{both-distinct}
use Rattle.verbs_join.proofs.taking.followed_by.Goals as goal

pub returns-in_err-append-clause-distinct : goal.returns-in_err-append-clause-distinct
returns-in_err-append-clause-distinct c = both-distinct c.args.made c.args.rest c.into_fields-fields.ensures.distinct c.into_fields.ensures.distinct c.requires

pub of_fields-requires : goal.of_fields-requires
of_fields-requires c =
    ap (λ items. are_distinct (keys_of (pairs_of items))) c.in_ok-append.ensures.items
    ∙ ap (λ pairs. are_distinct (keys_of pairs)) (map-append pair_of c.into_fields-fields.result.items c.into_fields.result.items)
    ∙ ap₂ (λ a b. are_distinct (keys_of (a ++ b))) c.into_fields-fields.ensures.fields c.into_fields.ensures.fields
    ∙ both-distinct c.args.made c.args.rest c.into_fields-fields.ensures.distinct c.into_fields.ensures.distinct c.requires
