use Rattle.std.proofs.Common.{[], ◌∷◌, ap, refl, ◌∙◌, ◌++◌}
use Rattle.mlr_event.specs.Models.{cat, cat-gives, cat-quiet}
use Rattle.mlr_event.specs.Verb.{made}
use Rattle.mlr_event.proofs.Making.{made-next}
use Rattle.mlr_event.proofs.models.CatStep.step.Goals as goal

pub returns-clause-adds : goal.returns-clause-adds
returns-clause-adds c given holds open_is =
    (c.args.event ∷ [], made-next cat cat-quiet refl given c.args.event open_is ∙ ap (λ t. made cat given ++ t) (cat-gives given c.args.event), c.in_default.ensures)
