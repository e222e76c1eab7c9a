use Rattle.std.proofs.Common.{◌<◌, ◌-◌, ◌/◌, ◌+◌, ◌∙◌, length, ap, subst, sym, arith}
use Rattle.std.specs.List.{swap}
use Rattle.verbs_hold.proofs.Turning.{IsTurned, turned-none, turned-more, turned-all}
use Rattle.verbs_hold.proofs.tac.reverse.Goals as goal

pub loop-place-init : goal.loop-place-init
loop-place-init c = turned-none c.args.rows.now

pub swap-requires-clause-one : goal.swap-requires-clause-one
swap-requires-clause-one c =
    let few = c.loop-place-test.true in
    omega (arith, few, c.len-len.ensures, c.loop-place.invariant.long)

pub swap-requires-clause-other : goal.swap-requires-clause-other
swap-requires-clause-other c =
    let few = c.loop-place-test.true in
    omega (arith, few, c.len-len.ensures, c.loop-place.invariant.long)

pub loop-place-preserved : goal.loop-place-preserved
loop-place-preserved c =
    let old = c.args.rows.now in
    let now = c.loop-place.rows in
    let place = c.loop-place.place in
    let few : place < length old / 2 = omega (arith, c.loop-place-test.true, c.len-len.ensures) in
    subst (IsTurned (place + 1) old) (ap (λ n. swap now place (n - 1 - place)) (sym c.len-len.ensures) ∙ sym c.swap.ensures)
    (turned-more old now place few c.loop-place.invariant)

pub returns : goal.returns
returns c = turned-all c.args.rows.now c.loop-place.rows c.loop-place.place (omega (arith, c.loop-place-test.false, c.len-len.ensures)) c.loop-place.invariant
