use Rattle.std.proofs.Common.{List, ℕ}
use Rattle.mlr_spec.specs.Tree.{Tree}
use Rattle.mlr_stats.specs.Kept.{Arranges, Summarizes}
use Rattle.stat_base.specs.declared.accumulator.Accumulator.{Accumulator}
use Rattle.verbs_summary.specs.KeptOfGroup.{KeepsEach}
use Rattle.verbs_summary.proofs.Keeping.{Partly}
use Rattle.verbs_summary.proofs.gathering.sort_all.Given as goal

-- what is kept for the first names is sorted
abbrev pub invariant-loop-place : goal.invariant-loop-place
invariant-loop-place l =
    (accumulators : List Accumulator) (values : List ℕ → List Tree) (names : List (List ℕ)) → KeepsEach (λ name. Summarizes accumulators (values name)) names l.fn.summaries
    → Partly (λ name. Summarizes accumulators (values name)) (λ name. Arranges accumulators (values name)) l.place names l.summaries
