use Rattle.std.proofs.Common.{[], refl, ap, sym, ◌∙◌}
use Rattle.std.proofs.lemmas.List.{append-nil}
use Rattle.mlr_event.specs.Verb.{is_list}
use Rattle.mlr_event.proofs.Ordered.{open-list}
use Rattle.outlet.proofs.tests.a_list_is_emptied.Goals as goal

pub take_all-requires : goal.take_all-requires
take_all-requires g c =
    (_, [], c.in_ok-outlet.ensures, ap is_list (sym (append-nil c.in_ok-events.events)) ∙ open-list c.in_ok-events.events [] c.in_ok-events.ensures refl)
