use Rattle.std.proofs.Common.{◌≡◌, ◌<◌, ap, sym, ◌∙◌, arith, length, get_or}
use Rattle.mlr_value.specs.Value.{tree_of}
use Rattle.verbs_state.proofs.Names.{names-same}
use Rattle.verbs_state.proofs.regularize.are_names.Goals as goal

pub loop-place-preserved : goal.loop-place-preserved
loop-place-preserved c =
    let names = c.args.names.now in
    let name = c.as_slice.result.now in
    let below : c.loop-place.place < length names = omega (arith, c.loop-place-test.true, ap length c.as_slice-name-items.ensures) in
    let is : name ≡ get_or names c.loop-place.place name =
    c.as_slice.ensures ∙ c.name-item.is ∙ ap (λ items. get_or items c.loop-place.place c.name-item.result) c.as_slice-name-items.ensures
    ∙ ap (λ any. get_or names c.loop-place.place any) (sym c.as_slice.ensures) in
    names-same names c.args.fields.now c.loop-place.place name (c.entry.result.0.now, tree_of c.entry.result.1.now) below (omega (arith, c.len.ensures, c.len-2.ensures.length, c.if-len.false)) is
    c.entry.ensures c.if-ne.ensures c.loop-place.invariant
