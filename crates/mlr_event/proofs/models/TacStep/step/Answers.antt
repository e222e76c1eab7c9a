use Rattle.std.proofs.Common.{◌++◌, ap, refl, ◌∙◌}
use Rattle.mlr_event.specs.Models.{tac, tac_gives, tac-quiet}
use Rattle.mlr_event.specs.Verb.{gives}
use Rattle.mlr_event.proofs.Making.{made-next}
use Rattle.mlr_event.proofs.Tac.{tac-gives}
use Rattle.mlr_event.proofs.models.TacStep.step.Goals as goal

pub returns-clause-adds : goal.returns-clause-adds
returns-clause-adds c given represents open_is = (
  gives tac given c.args.event,
  made-next tac tac-quiet refl given c.args.event open_is,
  c.in_default.ensures.out ∙ ap (λ t. c.args.out.now ++ t) (ap (λ held. tac_gives held c.args.event) (represents.1 open_is) ∙ tac-gives given c.args.event),
)
