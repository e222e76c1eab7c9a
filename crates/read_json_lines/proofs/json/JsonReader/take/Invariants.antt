use Rattle.std.proofs.Common.{◌≡◌, ◌+◌, ◌≤◌, ℕ, List, length}
use Rattle.mlr_event.specs.declared.event.Ctx.{Ctx}
use Rattle.mlr_event.specs.declared.event.Event.{Event}
use Rattle.mlr_event.specs.declared.names.FileRef.{FileRef}
use Rattle.mlr_event.specs.declared.options.ReadOpts.{ReadOpts}
use Rattle.read_json_lines.specs.Represents.{Moves, RepresentsWith, is_waiting, used}
use Rattle.read_json_lines.proofs.json.JsonReader.take.Given as goal

-- the part of the piece that has been read, and the rest of it
abbrev pub invariant-loop-self : goal.invariant-loop-self
invariant-loop-self l = record {
  moves : (opts : ReadOpts) (file : FileRef) (start : Ctx) (all : List ℕ) (put : List Event) → RepresentsWith l.initial.self.mark opts file start l.initial.self.stream all l.initial.left put
      → Moves opts file start l.self.mark l.self.stream all l.left put l.initial.out l.out;
  room : used l.self + length l.left ≤ used l.initial.self + length l.initial.left;
  stage : l.self.stage ≡ l.initial.self.stage;
}

abbrev pub decreases-loop-self : goal.decreases-loop-self
decreases-loop-self l = is_waiting l.self.mark + length l.left
