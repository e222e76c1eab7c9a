use Rattle.std.proofs.Common.{◌∷◌, [], ◌∙◌, length, ap}
use Rattle.mlr_spec.specs.Pairs.{keys_of, are_distinct}
use Rattle.verbs_fields.proofs.Labels.{are_distinct-labelled, dropped_from, labelled, labelled-lent}
use Rattle.verbs_fields.proofs.label.LabelPerRecord.made.Goals as goal

pub of_fields-requires : goal.of_fields-requires
of_fields-requires c =
    let names = c.as_slice-names.result.now in
    let left = c.drop_others.ensures ∙ ap (dropped_from names (length names)) c.into_fields-list.ensures.fields in
    let whole = labelled-lent names c.args.fields c.drop_others.new.fields c.deref_mut.result.now c.put_names.new.fields left c.deref_mut.ensures.value (c.put_names.auto.fields ∙ c.deref_mut.ensures.len) c.in_ok-put_names.ensures in
    ap (λ pairs. are_distinct (keys_of pairs)) (whole ∙ ap (λ given. labelled given c.args.fields) c.as_slice-names.ensures)
    ∙ are_distinct-labelled c.args.self.now.names c.args.fields c.requires c.into_fields-list.ensures.distinct

pub returns-clause-made : goal.returns-clause-made
returns-clause-made c =
    let names = c.as_slice-names.result.now in
    let left = c.drop_others.ensures ∙ ap (dropped_from names (length names)) c.into_fields-list.ensures.fields in
    let whole = labelled-lent names c.args.fields c.drop_others.new.fields c.deref_mut.result.now c.put_names.new.fields left c.deref_mut.ensures.value (c.put_names.auto.fields ∙ c.deref_mut.ensures.len) c.in_ok-put_names.ensures in
    ap (λ made. made ∷ []) (c.of_fields.ensures ∙ whole ∙ ap (λ given. labelled given c.args.fields) c.as_slice-names.ensures)
