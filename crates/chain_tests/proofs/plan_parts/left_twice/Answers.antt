use Rattle.std.proofs.Common.{[], refl, sym, subst}
use Rattle.read_files.specs.Takes.{After}
use Rattle.serial_core.proofs.Running.{following-none}
use Rattle.chain_tests.proofs.plan_parts.left_twice.Goals as goal

pub turn-requires : goal.turn-requires
turn-requires g c = (c.args.plan.now, g.I.Inputs.taken c.args.inputs.now, [], c.in_ok-reader.ensures, following-none _ _ _)

pub turn-requires-2 : goal.turn-requires-2
turn-requires-2 g c =
    let before = g.I.Inputs.taken c.args.inputs.now in
    let first = c.in-Went.ensures.turned c.args.plan.now before [] c.in_ok-reader.ensures (following-none _ _ _) in (
      c.args.plan.now,
      before,
      first.given',
      first.represents refl,
      subst (λ told. After before first.given' told (g.I.Inputs.taken c.turn.new.inputs) (g.I.Inputs.open_entry c.turn.new.inputs)) (sym c.in-Went.ensures.contents) first.following,
    )
