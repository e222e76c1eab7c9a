use Rattle.std.proofs.Common.{[], ap, sym, subst, ◌∙◌}
use Rattle.std.specs.Prelude.{length}
use Rattle.read_files.specs.Takes.{After}
use Rattle.serial_core.proofs.Running.{following-none}
use Rattle.chain_core.proofs.LeftFiles.{lefts-many}
use Rattle.chain_core.proofs.Runs.{command-of}
use Rattle.chain_tests.proofs.plan_parts.run_twice.Goals as goal

pub new-requires-2-clause-lefts : goal.new-requires-2-clause-lefts
new-requires-2-clause-lefts g c = ap length c.in_ok-lefts.ensures ∙ lefts-many c.args.plan.now.verbs _

pub turn-requires : goal.turn-requires
turn-requires g c =
    let own = command-of c.args.plan.now c.requires c.in_ok-lefts.lefts in
    (own.0, g.I.Inputs.taken c.args.inputs.now, [], [], [], c.in_ok-serial.ensures own.0 own.1, following-none _ _ _)

pub turn-requires-2 : goal.turn-requires-2
turn-requires-2 g c =
    let own = command-of c.args.plan.now c.requires c.in_ok-lefts.lefts in
    let before = g.I.Inputs.taken c.args.inputs.now in
    let first = c.in-Went.ensures.ran own.0 before [] [] [] (c.in_ok-serial.ensures own.0 own.1) (following-none _ _ _) in (
      own.0,
      before,
      first.given',
      first.outcome.put,
      _,
      first.outcome.represent,
      subst (λ told. After before first.given' told (g.I.Inputs.taken c.turn.new.inputs) (g.I.Inputs.open_entry c.turn.new.inputs)) (sym c.in-Went.ensures.contents) first.took.following,
    )
