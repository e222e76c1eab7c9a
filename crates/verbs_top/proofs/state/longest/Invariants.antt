use Rattle.std.proofs.Common.{◌≡◌, ◌<◌, ◌^◌, drop, length, map, max}
use Rattle.std.specs.List.{fold}
use Rattle.verbs_top.specs.State.{longest, trees_in}
use Rattle.verbs_top.proofs.state.longest.Given as goal

-- the most so far, and those that remain
abbrev pub invariant-loop-list : goal.invariant-loop-list
invariant-loop-list l = record {
  most : fold max l.most (map length (map trees_in (drop l.list-index l.lists))) ≡ longest (map trees_in l.lists);
  bounded : l.most < 2 ^ 63;
}
