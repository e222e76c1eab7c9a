use Rattle.std.proofs.Common.{List}
use Rattle.mlr_event.specs.declared.event.Event.{Event}
use Rattle.writers.specs.declared.options.WriteOpts.{WriteOpts}
use Rattle.outlet.specs.Represents.{Represents}
use Rattle.outlet.proofs.tests.give_all.Given as goal

-- it was given some events
abbrev pub invariant-loop-text : goal.invariant-loop-text
invariant-loop-text g l =
    (goal.iterator-loop-text g).can_next l.text-iterator
    × (goal.iterator-loop-text g).is_finite l.text-iterator
    × (opts : WriteOpts)
    × (before : List Event)
    × Represents opts before l.outlet
