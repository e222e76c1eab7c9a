use Rattle.std.proofs.Common.{◌++◌, List, take}
use Rattle.mlr_spec.specs.Tree.{Tree}
use Rattle.mlr_stats.specs.Kept.{Summarizes}
use Rattle.verbs_summary.specs.Merging.{values_named}
use Rattle.verbs_summary.proofs.merge_fields.add_named.Given as goal

-- the values of the first names were taken
abbrev pub invariant-loop-name : goal.invariant-loop-name
invariant-loop-name l =
    (values : List Tree) → Summarizes l.statistics values l.fn.summary → Summarizes l.statistics (values ++ values_named (take l.name-index l.name-items) l.fields) l.summary
