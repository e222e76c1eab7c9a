use Rattle.std.proofs.Common.{sym, subst}
use Rattle.serial_core.proofs.Wholes.{ResultFixed, ResultGrows}
use Rattle.verb_specs.specs.Verbs.{lefts_for, verbs_with}
use Rattle.plan_verbs.specs.Plans.{left_files}
use Rattle.chain_core.specs.Origins.{origin_of}
use Rattle.chain_core.proofs.Each.{no-pieces}
use Rattle.chain_core.proofs.WithLefts.{lefts-fixed, lefts-grow}
use Rattle.chain_core.proofs.PlanLaws.{main-fixed, main-grows, plan-plain}
use Rattle.chain_core.proofs.laws.meaning_laws.Goals as goal

pub returns-clause-grows : goal.returns-clause-grows
returns-clause-grows c plan meaning is =
    subst ResultGrows (sym is.is)
    (lefts-grow (left_files plan.verbs) (origin_of plan) (λ lefts. verbs_with plan.verbs (lefts_for plan.verbs lefts)) is.write c.left_laws.ensures.fixed
    (main-grows plan is.write c.source_laws.ensures.list c.source_laws.ensures.grows c.source_laws.ensures.fixed c.chain_laws.ensures.growth c.outlet_laws.ensures))

pub returns-clause-fixed : goal.returns-clause-fixed
returns-clause-fixed c plan meaning is =
    subst ResultFixed (sym is.is)
    (lefts-fixed (left_files plan.verbs) (origin_of plan) (λ lefts. verbs_with plan.verbs (lefts_for plan.verbs lefts)) is.write c.left_laws.ensures.fixed
    (main-fixed plan is.write c.source_laws.ensures.list c.source_laws.ensures.grows c.source_laws.ensures.fixed c.chain_laws.ensures.growth))

pub returns-clause-pieces : goal.returns-clause-pieces
returns-clause-pieces c plan meaning is given one = no-pieces one (meaning.result given) (plan-plain plan meaning is given)
