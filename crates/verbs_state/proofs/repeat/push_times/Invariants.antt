use Rattle.std.proofs.Common.{◌≡◌, ◌++◌, replicate}
use Rattle.mlr_event.specs.declared.event.Event.TheVariants as event
use Rattle.verbs_state.proofs.repeat.push_times.Given as goal

abbrev pub invariant-loop : goal.invariant-loop
invariant-loop l = l.out ≡ l.fn.out ++ replicate l.counter (event.Rec l.fields l.ctx)
