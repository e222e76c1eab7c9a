use Rattle.std.proofs.Common.{List}
use Rattle.mlr_event.specs.declared.event.Event.{Event}
use Rattle.writers.specs.declared.options.WriteOpts.{WriteOpts}
use Rattle.outlet.specs.Represents.{Represents}
use Rattle.outlet.proofs.tests.give_each.Given as goal

-- it was given some events
abbrev pub invariant-loop-line : goal.invariant-loop-line
invariant-loop-line l =
    (goal.iterator-loop-line).can_next l.line-iterator
    × (goal.iterator-loop-line).is_finite l.line-iterator
    × (opts : WriteOpts)
    × (before : List Event)
    × Represents opts before l.outlet
