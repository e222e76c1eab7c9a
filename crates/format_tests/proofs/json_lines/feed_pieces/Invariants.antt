use Rattle.std.proofs.Common.{◌+◌, ◌≤◌, length}
use Rattle.read_json_lines.specs.Represents.{IsOpen, used}
use Rattle.format_tests.proofs.json_lines.feed_pieces.Given as goal

-- the reader is open, and has room for the rest of the text
abbrev pub invariant-loop-left : goal.invariant-loop-left
invariant-loop-left l = record {
  is_open : IsOpen l.reader;
  room : used l.reader + length l.left ≤ used l.initial.reader + length l.initial.text;
}

abbrev pub decreases-loop-left : goal.decreases-loop-left
decreases-loop-left l = length l.left
