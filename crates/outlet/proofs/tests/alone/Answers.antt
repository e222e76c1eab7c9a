use Rattle.std.proofs.Common.{◌≡◌, true, [], ◌∷◌, ◌++◌, refl, ap, sym, ◌∙◌, subst}
use Rattle.mlr_event.specs.Verb.{is_list}
use Rattle.mlr_event.proofs.Ordered.{open-list}
use Rattle.outlet.proofs.tests.alone.Goals as goal

pub returns : goal.returns
returns c = λ before open_is.
    let alone = c.in_ok-push.ensures ∙ ap (λ t. t ++ c.args.event ∷ []) c.new-events.ensures in
    subst (λ t. is_list (before ++ t) ≡ true) (sym alone) (open-list before (c.args.event ∷ []) open_is refl)
