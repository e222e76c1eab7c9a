use Rattle.std.proofs.Common.{◌≡◌, ◌++◌, length}
use Rattle.mlr_event.specs.Models.{last_first}
use Rattle.mlr_event.proofs.models.give.Given as goal

-- the events so far and the remaining ones make up the whole
abbrev pub invariant-loop-fields : goal.invariant-loop-fields
invariant-loop-fields l = l.out ++ last_first l.held.items ≡ l.initial.out ++ last_first l.initial.held.items

abbrev pub decreases-loop-fields : goal.decreases-loop-fields
decreases-loop-fields l = length l.held.items
