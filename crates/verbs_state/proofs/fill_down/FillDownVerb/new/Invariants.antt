use Rattle.std.proofs.Common.{◌≡◌, None, replicate}
use Rattle.verbs_state.proofs.fill_down.FillDownVerb.new.Given as goal

abbrev pub invariant-loop : goal.invariant-loop
invariant-loop l = l.kept.items ≡ replicate l.counter None
