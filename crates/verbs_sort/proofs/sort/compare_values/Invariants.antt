use Rattle.std.proofs.Common.{◌≡◌, drop}
use Rattle.verbs_sort.specs.Kept.{compare_values, keys_in, trees_in}
use Rattle.verbs_sort.proofs.sort.compare_values.Given as goal

-- the values so far tie
abbrev pub invariant-loop-place : goal.invariant-loop-place
invariant-loop-place l =
    compare_values (keys_in (drop l.place l.keys)) (drop l.place (trees_in l.values)) (drop l.place (trees_in l.others))
    ≡ compare_values (keys_in l.keys) (trees_in l.values) (trees_in l.others)
