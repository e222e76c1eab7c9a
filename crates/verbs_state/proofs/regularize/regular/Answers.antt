use Rattle.std.proofs.Common.{Some, length, refl, sym, ap, ◌∙◌, slice_get}
use Rattle.std.proofs.lemmas.Bool.{ltb-true}
use Rattle.std.proofs.lemmas.Option.{get_or_from_slice_get, slice_get_read}
use Rattle.mlr_spec.specs.Pairs.{keys_of}
use Rattle.verbs_base.specs.Choosing.{picked}
use Rattle.verbs_state.proofs.Names.{picked-own}
use Rattle.verbs_state.proofs.Regular.{known-keeps, known-regular, set-at}
use Rattle.verbs_state.proofs.regularize.regular.Goals as goal

pub returns-in-Some-clause-keeps : goal.returns-in-Some-clause-keeps
returns-in-Some-clause-keeps c before keeps =
    let sets = c.args.sets.now in
    let orders = c.args.orders.now.items in
    let last = c.args.last.now in
    let items = c.deref.result.now in
    let at = ap (λ all. slice_get all last) (sym c.deref.ensures.value)
    ∙ slice_get_read items (length items) last c.in-Some.order.now refl (ltb-true last (length items) (sym c.in-Some.ensures.lookup.0)) c.in-Some.ensures.lookup.1
    ∙ ap Some (c.are_names.ensures.names c.if-are_names.true) in
    known-keeps sets orders before c.args.fields keeps last (set-at sets orders before c.args.fields keeps last at)

pub returns-in-Some-clause-made : goal.returns-in-Some-clause-made
returns-in-Some-clause-made c before keeps =
    let sets = c.args.sets.now in
    let orders = c.args.orders.now.items in
    let last = c.args.last.now in
    let names = keys_of c.args.fields in
    let items = c.deref.result.now in
    let at = ap (λ all. slice_get all last) (sym c.deref.ensures.value)
    ∙ slice_get_read items (length items) last c.in-Some.order.now refl (ltb-true last (length items) (sym c.in-Some.ensures.lookup.0)) c.in-Some.ensures.lookup.1
    ∙ ap Some (c.are_names.ensures.names c.if-are_names.true) in
    sym (
    known-regular sets orders before c.args.fields keeps last (set-at sets orders before c.args.fields keeps last at) names
    ∙ ap (λ order. picked order c.args.fields) (get_or_from_slice_get orders last names names at)
    ∙ picked-own c.args.fields c.are_names.ensures.distinct
    )

pub returns-then-are_names-2-clause-made : goal.returns-then-are_names-2-clause-made
returns-then-are_names-2-clause-made c before keeps =
    let order = c.index-order.result.now in
    sym (
    c.in_ok-place.ensures.order before order keeps
    ∙ ap (λ names. picked names c.args.fields) (sym c.index-order.ensures ∙ c.are_names-2.ensures.names c.if-are_names-2.true)
    ∙ picked-own c.args.fields c.are_names-2.ensures.distinct
    )
