use Rattle.std.proofs.Common.{◌≡◌, List, ◌++◌, Some, map, drop}
use Rattle.verbs_base.specs.Records.{Fields, with_context}
use Rattle.verbs_join.specs.Join.{pair_of}
use Rattle.verbs_join.specs.Places.{at_places}
use Rattle.verbs_join.proofs.pairing.push_copied.Given as goal

-- the pairs so far, with those of the remaining left records, are all
abbrev pub invariant-loop-place : goal.invariant-loop-place
invariant-loop-place l =
    (found : List Fields) → at_places l.lefts l.places ≡ map Some found
    → l.out ++ with_context l.ctx (map (λ left. pair_of l.options left l.right) (drop l.place-index found))
    ≡ l.fn.out ++ with_context l.ctx (map (λ left. pair_of l.options left l.right) found)
