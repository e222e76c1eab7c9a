use Rattle.std.proofs.Common.{ap, ◌∙◌}
use Rattle.mlr_spec.specs.Pairs.{are_distinct, keys_of, remove_at}
use Rattle.mlr_spec.proofs.Pairs.{are_distinct-remove}
use Rattle.verbs_reshape.proofs.Wide.{others-left}
use Rattle.verbs_reshape.proofs.wide_row.part.Goals as goal

pub of_fields-requires : goal.of_fields-requires
of_fields-requires c =
    let options = c.args.options.now in
    let left = c.take_field.ensures.left ∙ ap (remove_at options.key) (c.take_field-value.ensures.left ∙ ap (remove_at options.value) c.into_fields-others.ensures.fields) in
    ap (λ fields. are_distinct (keys_of fields)) left
    ∙ are_distinct-remove options.key (remove_at options.value c.args.fields) (are_distinct-remove options.value c.args.fields c.into_fields-others.ensures.distinct)

pub returns-clause-others : goal.returns-clause-others
returns-clause-others c =
    let options = c.args.options.now in
    let left = c.take_field.ensures.left ∙ ap (remove_at options.key) (c.take_field-value.ensures.left ∙ ap (remove_at options.value) c.into_fields-others.ensures.fields) in
    c.of_fields.ensures ∙ left ∙ others-left options c.args.fields c.into_fields-others.ensures.distinct
