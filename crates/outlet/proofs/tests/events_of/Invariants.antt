use Rattle.std.proofs.Common.{◌≡◌, true}
use Rattle.mlr_event.specs.Verb.{is_open}
use Rattle.outlet.proofs.tests.events_of.Given as goal

abbrev pub invariant-loop-line : goal.invariant-loop-line
invariant-loop-line l =
    (goal.iterator-loop-line).can_next l.line-iterator
    × (goal.iterator-loop-line).is_finite l.line-iterator
    × (is_open l.events ≡ true)
