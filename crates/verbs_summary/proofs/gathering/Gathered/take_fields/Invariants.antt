use Rattle.std.proofs.Common.{◌≡◌, length, take}
use Rattle.mlr_stats.specs.Kept.{Summarizes}
use Rattle.verbs_summary.specs.KeptOfGroup.{KeepsEach}
use Rattle.verbs_summary.specs.Shortened.{short_names, values_of_short}
use Rattle.verbs_summary.proofs.gathering.Gathered.take_fields.Given as goal

-- the values of the fields so far were taken
abbrev pub invariant-loop-field : goal.invariant-loop-field
invariant-loop-field l = record {
  seen : l.self.seen ≡ l.self.names;
  places : length l.self.summaries.items ≡ length l.self.names;
  names : l.self.names ≡ short_names l.texts (take l.field-index l.fields);
  summaries : KeepsEach (λ short. Summarizes l.statistics (values_of_short l.texts (take l.field-index l.fields) short)) l.self.names l.self.summaries.items;
}
