use Rattle.std.proofs.Common.{◌≡◌, ◌++◌, List, ℕ, Some, drop, map}
use Rattle.mlr_record.specs.Fields.{pairs_of}
use Rattle.verbs_base.specs.Records.{Fields}
use Rattle.verbs_summary.specs.KeptOfGroup.{ArrangesValues, KeepsEach, names_at, statistics_made}
use Rattle.verbs_summary.proofs.stats1.append_met.Given as goal

-- the statistics so far, with those of the remaining names, are all
abbrev pub invariant-loop-place : goal.invariant-loop-place
invariant-loop-place l =
    (rows : List Fields) (names : List (List ℕ)) → KeepsEach (ArrangesValues l.options rows) l.options.names l.summaries
    → names_at l.options.names l.met ≡ map Some names
    → pairs_of l.into.items ++ statistics_made l.options (drop l.place-index names) rows ≡ pairs_of l.fn.into.items ++ statistics_made l.options names rows
