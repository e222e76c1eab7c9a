use Rattle.std.proofs.Common.{◌≡◌, ◌+◌, ◌≤◌, ◌&&◌, ◌++◌, length}
use Rattle.mlr_lines.specs.Lines.{ended_after, begun_after}
use Rattle.mlr_lines.specs.Steps.{are_none, unmarked_lines}
use Rattle.mlr_lines.specs.Represents.{format_after, given}
use Rattle.mlr_lines.proofs.lines.Lines.take.Given as goal

-- the rest of the piece has yet to add its lines to those of the piece so far
abbrev pub invariant-loop-line : goal.invariant-loop-line
invariant-loop-line g l = record {
  state : format_after g.F.LineFormat.after l.self.format (unmarked_lines l.self.first (ended_after l.self.begun.items l.rest))
      ≡ format_after g.F.LineFormat.after l.initial.self.format (unmarked_lines l.initial.self.first (ended_after l.initial.self.begun.items l.initial.rest));
  events : l.out ++ given g.F.LineFormat.after g.F.LineFormat.gives l.self.format (unmarked_lines l.self.first (ended_after l.self.begun.items l.rest))
      ≡ l.initial.out ++ given g.F.LineFormat.after g.F.LineFormat.gives l.initial.self.format (unmarked_lines l.initial.self.first (ended_after l.initial.self.begun.items l.initial.rest));
  begun : begun_after l.self.begun.items l.rest ≡ begun_after l.initial.self.begun.items l.initial.rest;
  first : (l.self.first && are_none (ended_after l.self.begun.items l.rest)) ≡ (l.initial.self.first && are_none (ended_after l.initial.self.begun.items l.initial.rest));
  room : g.F.LineFormat.count l.self.format + length l.rest ≤ g.F.LineFormat.count l.initial.self.format + length l.initial.rest;
  stage : l.self.stage ≡ l.initial.self.stage;
}

abbrev pub decreases-loop-line : goal.decreases-loop-line
decreases-loop-line g l = length l.rest
