use Rattle.serial_core.specs.Meaning.{meaning_of}
use Rattle.verb_specs.specs.Verbs.{lefts_for}
use Rattle.chain_core.proofs.Runs.{command-of, unread}
use Rattle.chain_core.proofs.run.run_main.Goals as goal

pub run-requires : goal.run-requires
run-requires g c = let own = command-of c.args.plan.now c.requires (lefts_for c.args.plan.now.verbs c.args.held.items) in (own.0, c.in-Ok.ensures own.0 own.1)

pub returns-in-Err-clause-run : goal.returns-in-Err-clause-run
returns-in-Err-clause-run g c command is =
    unread (meaning_of command) (g.I.Inputs.contents c.args.inputs.now) (g.I.Inputs.taken c.args.inputs.now) (g.I.Inputs.open_entry c.args.inputs.now) (g.O.Outputs.held c.args.outputs.now)
