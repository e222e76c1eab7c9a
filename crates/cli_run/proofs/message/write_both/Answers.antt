use Rattle.mlr_event.specs.declared.names.Target.TheVariants.{Stderr}
use Rattle.cli_run.proofs.Messages.{stopped-first}
use Rattle.cli_run.proofs.message.write_both.Goals as goal

pub returns-in-Failed-clause-bytes : goal.returns-in-Failed-clause-bytes
returns-in-Failed-clause-bytes g c = stopped-first c.args.text.now c.args.value.now Stderr (g.O.Outputs.held c.args.outputs.now) (g.O.Outputs.held c.write_some.new.outputs) c.in-Failed.ensures.bytes

pub returns-in-NoMemory-clause-bytes : goal.returns-in-NoMemory-clause-bytes
returns-in-NoMemory-clause-bytes g c = stopped-first c.args.text.now c.args.value.now Stderr (g.O.Outputs.held c.args.outputs.now) (g.O.Outputs.held c.write_some.new.outputs) c.in-NoMemory.ensures.bytes
