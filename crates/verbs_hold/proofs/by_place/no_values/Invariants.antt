use Rattle.std.proofs.Common.{◌≡◌, take}
use Rattle.verbs_hold.specs.ByPlace.{no_values, trees_of}
use Rattle.verbs_hold.proofs.by_place.no_values.Given as goal

abbrev pub invariant-loop : goal.invariant-loop
invariant-loop l = trees_of l.values.items ≡ no_values (take l.index l.names)
