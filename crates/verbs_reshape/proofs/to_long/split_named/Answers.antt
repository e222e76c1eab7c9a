use Rattle.std.proofs.Common.{◌++◌, length, take, drop, ap, ap₂, ◌∙◌}
use Rattle.std.proofs.lemmas.List.{with_items_is}
use Rattle.mlr_record.specs.Fields.{pairs_of}
use Rattle.mlr_spec.specs.Pairs.{are_distinct, keys_of}
use Rattle.mlr_event.specs.Reading.{is_among}
use Rattle.std.specs.Prelude.{not}
use Rattle.verbs_base.specs.Choosing.{dropped, picked}
use Rattle.verbs_base.proofs.Filters.{are_distinct-filter}
use Rattle.verbs_base.proofs.Picking.{picked-first}
use Rattle.verbs_reshape.proofs.Splitting.{dropped-rest}
use Rattle.verbs_reshape.proofs.to_long.split_named.Goals as goal

pub of_fields-requires : goal.of_fields-requires
of_fields-requires c =
    let count = c.move_named-count.result in
    let names = c.as_slice.ensures in
    let pairs = ap pairs_of c.deref_mut.ensures.value ∙ c.into_fields-selected.ensures.fields in
    let whole = ap (drop count) (with_items_is c.into_fields-selected.result c.move_named-count.new.fields (c.move_named-count.auto.fields ∙ c.deref_mut.ensures.len)) in
    let rest = dropped-rest c.args.names.now c.args.fields c.move_named-count.new.fields count (c.move_named-count.ensures.moved ∙ ap₂ (λ n p. picked n p ++ dropped n p) names pairs) (c.move_named-count.ensures.count ∙ ap₂ (λ n p. length (picked n p)) names pairs) in
    ap (λ xs. are_distinct (keys_of xs)) (ap pairs_of (c.in_ok-others.ensures.tail ∙ whole) ∙ rest)
    ∙ are_distinct-filter (λ pair. not (is_among c.args.names.now pair.0)) c.args.fields c.into_fields-selected.ensures.distinct

pub returns-clause-selected : goal.returns-clause-selected
returns-clause-selected c =
    let count = c.move_named-count.result in
    let names = c.as_slice.ensures in
    let pairs = ap pairs_of c.deref_mut.ensures.value ∙ c.into_fields-selected.ensures.fields in
    let whole = ap (take count) (with_items_is c.into_fields-selected.result c.move_named-count.new.fields (c.move_named-count.auto.fields ∙ c.deref_mut.ensures.len)) in
    ap pairs_of (c.in_ok-others.ensures.items ∙ whole)
    ∙ picked-first c.args.names.now c.args.fields c.move_named-count.new.fields count (c.move_named-count.ensures.moved ∙ ap₂ (λ n p. picked n p ++ dropped n p) names pairs) (c.move_named-count.ensures.count ∙ ap₂ (λ n p. length (picked n p)) names pairs)

pub returns-clause-others : goal.returns-clause-others
returns-clause-others c =
    let count = c.move_named-count.result in
    let names = c.as_slice.ensures in
    let pairs = ap pairs_of c.deref_mut.ensures.value ∙ c.into_fields-selected.ensures.fields in
    let whole = ap (drop count) (with_items_is c.into_fields-selected.result c.move_named-count.new.fields (c.move_named-count.auto.fields ∙ c.deref_mut.ensures.len)) in
    c.of_fields.ensures
    ∙ ap pairs_of (c.in_ok-others.ensures.tail ∙ whole)
    ∙ dropped-rest c.args.names.now c.args.fields c.move_named-count.new.fields count (c.move_named-count.ensures.moved ∙ ap₂ (λ n p. picked n p ++ dropped n p) names pairs) (c.move_named-count.ensures.count ∙ ap₂ (λ n p. length (picked n p)) names pairs)
