use Rattle.std.proofs.Common.{[], ap, subst, ◌∙◌}
use Rattle.std.specs.Prelude.{IfOk, length}
use Rattle.serial_core.specs.Command.{Command}
use Rattle.chain_core.specs.Meanings.{IsCommandOf}
use Rattle.chain_core.specs.Parts.{Runs}
use Rattle.chain_core.proofs.LeftFiles.{lefts-many}
use Rattle.chain_core.proofs.run.serial_of.Goals as goal

pub new-requires-clause-lefts : goal.new-requires-clause-lefts
new-requires-clause-lefts c = ap length c.in_ok-lefts_for.ensures ∙ lefts-many c.args.plan.now.verbs c.args.held.items

pub returns : goal.returns
returns c = subst (λ lefts. IfOk c.new.result (λ made. (command : Command) → IsCommandOf c.args.plan.now lefts command → Runs command [] [] [] made)) c.in_ok-lefts_for.ensures c.new.ensures
