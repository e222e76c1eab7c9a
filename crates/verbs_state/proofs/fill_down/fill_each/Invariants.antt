use Rattle.std.proofs.Common.{◌≡◌, List, length}
use Rattle.verbs_state.specs.FillDown.{KeepsLast}
use Rattle.verbs_base.specs.Records.{Fields}
use Rattle.verbs_state.proofs.Filling.{Filling}
use Rattle.verbs_state.proofs.fill_down.fill_each.Given as goal

abbrev pub invariant-loop-place : goal.invariant-loop-place
invariant-loop-place l = record {
  places : length l.kept ≡ length l.options.names;
  filling : (before : List Fields) → KeepsLast l.options l.fn.kept before → Filling l.options before l.fn.fields l.place l.kept l.fields;
}
