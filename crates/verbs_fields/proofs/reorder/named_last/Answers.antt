use Rattle.std.proofs.Common.{◌∙◌, ◌++◌, ap, ap₂}
use Rattle.std.proofs.lemmas.List.{with_items_is}
use Rattle.mlr_spec.specs.Pairs.{keys_of, are_distinct}
use Rattle.mlr_record.specs.Fields.{pairs_of}
use Rattle.verbs_base.specs.Choosing.{picked, dropped}
use Rattle.verbs_base.proofs.Picking.{are_distinct-last}
use Rattle.verbs_fields.proofs.reorder.named_last.Goals as goal

pub of_fields-requires : goal.of_fields-requires
of_fields-requires c =
    let whole =
    ap pairs_of (with_items_is c.into_fields-fields.result c.move_named_last.new.fields (c.move_named_last.auto.fields ∙ c.deref_mut.ensures.len))
    ∙ c.move_named_last.ensures
    ∙ ap₂ (λ names pairs. dropped names pairs ++ picked names pairs) c.as_slice.ensures (ap pairs_of c.deref_mut.ensures.value ∙ c.into_fields-fields.ensures.fields) in
    ap (λ pairs. are_distinct (keys_of pairs)) whole ∙ are_distinct-last c.args.names.now c.args.from c.into_fields-fields.ensures.distinct
