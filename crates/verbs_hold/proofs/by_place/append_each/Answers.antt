use Rattle.std.proofs.Common.{◌<◌, ◌∙◌, ap, length, arith}
use Rattle.mlr_spec.specs.Pairs.{value_at}
use Rattle.verbs_hold.proofs.ByPlace.{gathered-free}
use Rattle.verbs_hold.proofs.by_place.append_each.Goals as goal

pub push-requires : goal.push-requires
push-requires c =
    let loop = c.loop-place in
    let names = c.args.names.now in
    let below : loop.place < length names = omega (arith, c.loop-place-test.true) in
    let room : loop.place < length loop.values = omega (arith, below, loop.invariant.places) in
    ap (λ name. value_at name loop.made) c.as_slice.ensures
    ∙ gathered-free c.args.fill.now names c.args.values.now loop.place c.index-names-place.result loop.values loop.made c.index-values-place.result c.index-names-place.is below room loop.invariant.gathered c.requires.distinct
