use Rattle.std.proofs.Common.{take, []}
use Rattle.verbs_summary.specs.KeptOfGroup.{KeepsEach, KeepsValues}
use Rattle.verbs_summary.proofs.stats1.no_summaries.Given as goal

-- something is kept for the first names
abbrev pub invariant-loop : goal.invariant-loop
invariant-loop l = KeepsEach (KeepsValues l.options []) (take l.counter l.options.names) l.summaries.items
