use Rattle.std.proofs.Common.{◌≡◌, ◌++◌, drop, List}
use Rattle.mlr_record.specs.Fields.{pairs_of}
use Rattle.mlr_spec.specs.Tree.{Tree}
use Rattle.mlr_stats.specs.Kept.{Arranges, ServesAll, needs_of}
use Rattle.mlr_stats.specs.Statistic.{fields_of}
use Rattle.mlr_stats.proofs.summary.Summary.append_all.Given as goal

-- the fields so far, with those of the remaining statistics
abbrev pub invariant-loop-accumulator : goal.invariant-loop-accumulator
invariant-loop-accumulator l =
    (values : List Tree) → Arranges l.statistics values l.self → ServesAll (needs_of l.statistics) l.statistics
    → pairs_of l.into.items ++ fields_of (drop l.accumulator-index l.accumulator-items) l.name values ≡ pairs_of l.fn.into.items ++ fields_of l.statistics l.name values
