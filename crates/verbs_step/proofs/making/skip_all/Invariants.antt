use Rattle.std.proofs.Common.{◌≡◌, ◌++◌, map, None, take}
use Rattle.verbs_step.specs.Kept.{kept}
use Rattle.verbs_step.specs.Made.{made_by, trees_of}
use Rattle.verbs_step.proofs.making.skip_all.Given as goal

abbrev pub invariant-loop : goal.invariant-loop
invariant-loop l = trees_of l.made.items ≡ trees_of l.fn.made.items ++ made_by None (map kept (take l.index l.tracks))
