use Rattle.std.proofs.Common.{◌≡◌, ◌++◌, map}
use Rattle.verbs_top.specs.State.{first_trees, trees_in}
use Rattle.verbs_top.proofs.state.first_lists.Given as goal

-- the lists so far, and those of the fields that remain
abbrev pub invariant-loop-best : goal.invariant-loop-best
invariant-loop-best l =
    map trees_in l.lists.items ++ map (first_trees l.options) l.best-iterator.rest.items ≡ map (first_trees l.options) l.fn.columns.items
