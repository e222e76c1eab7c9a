use Rattle.std.proofs.Common.{◌≡◌, false, map, take}
use Rattle.verbs_join.proofs.lefts.none_paired.Given as goal

abbrev pub invariant-loop : goal.invariant-loop
invariant-loop l = l.paired.items ≡ map (λ bucket. false) (take l.index l.buckets)
