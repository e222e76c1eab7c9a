use Rattle.std.proofs.Common.{[], ap, refl, ◌∙◌}
use Rattle.std.specs.Prelude.{length}
use Rattle.chain_core.proofs.LeftFiles.{lefts-many}
use Rattle.chain_tests.proofs.plan_parts.makes_of_three.Goals as goal

pub new-requires-2-clause-lefts : goal.new-requires-2-clause-lefts
new-requires-2-clause-lefts c = ap length c.in_ok-lefts.ensures ∙ lefts-many c.in_ok-plan.plan.verbs _

pub begin-requires : goal.begin-requires
begin-requires c = (_, c.in_ok-chain.ensures)

pub take_three-requires : goal.take_three-requires
take_three-requires c = (_, [], c.in_ok-begin.ensures.represents _ c.in_ok-chain.ensures, refl)
