use Rattle.std.proofs.Common.{◌≡◌, ◌++◌, ℕ, List, drop}
use Rattle.std.specs.List.{flat_map}
use Rattle.mlr_record.specs.Fields.{pairs_of}
use Rattle.mlr_spec.specs.Tree.{Tree}
use Rattle.mlr_stats.specs.Kept.{Arranges}
use Rattle.mlr_stats.specs.Statistic.{fields_of}
use Rattle.verbs_summary.specs.KeptOfGroup.{KeepsEach}
use Rattle.verbs_summary.proofs.gathering.append_summaries.Given as goal

-- the statistics so far, with those of the remaining names, are all
abbrev pub invariant-loop-place : goal.invariant-loop-place
invariant-loop-place l =
    (values : List ℕ → List Tree) → KeepsEach (λ name. Arranges l.statistics (values name)) l.names l.summaries
    → pairs_of l.into.items ++ flat_map (λ name. fields_of l.statistics name (values name)) (drop l.place l.names) ≡ pairs_of l.fn.into.items ++ flat_map (λ name. fields_of l.statistics name (values name)) l.names
