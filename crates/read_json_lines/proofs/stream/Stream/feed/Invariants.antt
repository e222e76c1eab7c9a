use Rattle.std.proofs.Common.{◌+◌, ◌≤◌, length}
use Rattle.read_json_lines.specs.Streams.{IsFit, Turned, count_of, waits}
use Rattle.read_json_lines.proofs.stream.Stream.feed.Given as goal

-- the part of the piece that has been read, and the rest of it
abbrev pub invariant-loop-self : goal.invariant-loop-self
invariant-loop-self l = record {
  turned : IsFit l.initial.self → Turned l.initial.self l.self l.initial.left l.left l.initial.out l.out;
  room : count_of l.self + length l.left ≤ count_of l.initial.self + length l.initial.left;
}

abbrev pub decreases-loop-self : goal.decreases-loop-self
decreases-loop-self l = waits l.self (length l.left)
