use Rattle.std.proofs.Common.{◌≡◌, ◌++◌, ◌∷◌, [], List, Some, length, map, take}
use Rattle.verbs_base.specs.Records.{Fields}
use Rattle.verbs_summary.specs.KeptOfGroup.{KeepsEach, KeepsValues, names_at}
use Rattle.verbs_summary.specs.Stats1.{newly_met}
use Rattle.verbs_summary.proofs.Keeping.{Partly}
use Rattle.verbs_summary.proofs.stats1.add_values.Given as goal

-- the values of the first names were taken
abbrev pub invariant-loop-place : goal.invariant-loop-place
invariant-loop-place l = record {
  places : length l.summaries ≡ length l.options.names;
  summaries :
      (before : List Fields) → KeepsEach (KeepsValues l.options before) l.options.names l.fn.summaries
      → Partly (KeepsValues l.options before) (KeepsValues l.options (before ++ l.fields ∷ [])) l.place l.options.names l.summaries;
  met :
      (before : List Fields) → KeepsEach (KeepsValues l.options before) l.options.names l.fn.summaries
      → names_at l.options.names l.met.items ≡ names_at l.options.names l.fn.met.items ++ map Some (newly_met (take l.place l.options.names) before l.fields);
}
