use Rattle.std.proofs.Common.{take, ap, ap₂, sym, ◌∙◌}
use Rattle.std.proofs.lemmas.List.{with_items_is, take-map}
use Rattle.mlr_spec.specs.Pairs.{keys_of, are_distinct}
use Rattle.mlr_record.specs.Fields.{pair_of, pairs_of}
use Rattle.verbs_base.specs.Choosing.{picked}
use Rattle.verbs_base.proofs.Picking.{are_distinct-picked}
use Rattle.verbs_base.proofs.choosing.pick_named.Goals as goal

pub of_fields-requires : goal.of_fields-requires
of_fields-requires c =
    let count = c.swap_named-count.result in
    let swapped = c.swap_named-count.new.fields in
    let pairs = ap pairs_of c.deref_mut.ensures.value ∙ c.into_fields-fields.ensures.fields in
    let whole = ap (take count) (with_items_is c.into_fields-fields.result swapped (c.swap_named-count.auto.fields ∙ c.deref_mut.ensures.len)) in
    ap (λ xs. are_distinct (keys_of xs)) (ap pairs_of (c.drop_after.ensures ∙ whole) ∙ sym (take-map pair_of count swapped) ∙ c.swap_named-count.ensures.swapped ∙ ap₂ picked c.as_slice.ensures pairs)
    ∙ are_distinct-picked c.args.names.now c.args.from

pub returns : goal.returns
returns c =
    let count = c.swap_named-count.result in
    let swapped = c.swap_named-count.new.fields in
    let pairs = ap pairs_of c.deref_mut.ensures.value ∙ c.into_fields-fields.ensures.fields in
    let whole = ap (take count) (with_items_is c.into_fields-fields.result swapped (c.swap_named-count.auto.fields ∙ c.deref_mut.ensures.len)) in
    c.of_fields.ensures ∙ ap pairs_of (c.drop_after.ensures ∙ whole) ∙ sym (take-map pair_of count swapped) ∙ c.swap_named-count.ensures.swapped ∙ ap₂ picked c.as_slice.ensures pairs
