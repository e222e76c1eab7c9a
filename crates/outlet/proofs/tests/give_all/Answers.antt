use Rattle.std.proofs.Common.{◌≡◌, true, List, [], ◌++◌, refl, ap, sym, ◌∙◌}
use Rattle.std.proofs.lemmas.List.{append-nil}
use Rattle.mlr_event.specs.declared.event.Event.{Event}
use Rattle.mlr_event.specs.Verb.{is_list, is_open}
use Rattle.mlr_event.proofs.Ordered.{open-list}
use Rattle.outlet.proofs.tests.give_all.Goals as goal

list-following : (before events : List Event) → is_open before ≡ true → is_open events ≡ true → is_list (before ++ events) ≡ true
list-following before events open_before open_is = open-list before events open_before (ap is_list (sym (append-nil events)) ∙ open-list events [] open_is refl)

pub take_all-requires : goal.take_all-requires
take_all-requires g c =
    let at = c.loop-text.invariant in
    (at.2, at.3, at.4, list-following at.3 c.in_ok-events.events at.4.clear c.in_ok-events.ensures)

pub loop-text-preserved : goal.loop-text-preserved
loop-text-preserved g c =
    let at = c.loop-text.invariant in
    (tt, tt, at.2, at.3 ++ c.in_ok-events.events, c.in-Went.ensures.represents at.2 at.3 at.4 (list-following at.3 c.in_ok-events.events at.4.clear c.in_ok-events.ensures) refl)

pub take_all-requires-2 : goal.take_all-requires-2
take_all-requires-2 g c =
    let at = c.loop-text.invariant in
    (at.2, at.3, at.4, c.in_ok-events-2.ensures at.3 at.4.clear)
