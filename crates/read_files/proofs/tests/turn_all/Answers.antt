use Rattle.std.proofs.Common.{refl, subst, sym}
use Rattle.read_files.specs.Takes.{After}
use Rattle.read_files.proofs.tests.turn_all.Goals as goal

pub loop-preserved : goal.loop-preserved
loop-preserved g c =
    let k = c.loop.invariant in
    let turned = c.in-Went.ensures.turned k.0 k.1 k.2 k.3 k.4 k.5 in (
      k.0,
      k.1,
      k.2,
      turned.given',
      turned.represents refl,
      subst (λ held. After k.2 turned.given' held (g.I.Inputs.taken c.turn.new.inputs) (g.I.Inputs.open_entry c.turn.new.inputs)) (sym c.in-Went.ensures.contents) turned.following,
    )
