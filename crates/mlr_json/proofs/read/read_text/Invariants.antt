use Rattle.std.proofs.Common.{◌≡◌, ◌+◌, ◌≤◌, length}
use Rattle.mlr_spec.specs.JsonTokens.{tokens_of}
use Rattle.mlr_json.specs.Machine.{outcome_of}
use Rattle.mlr_json.specs.Readable.{plain}
use Rattle.mlr_json.specs.Steps.{frames_of}
use Rattle.mlr_json.specs.Reading.{tokens_left}
use Rattle.mlr_json.specs.Turns.{outcome_at}
use Rattle.mlr_json.proofs.read.read_text.Given as goal

-- the outcome of the rest, from this machine, is that of the whole text
abbrev pub invariant-loop-machine : goal.invariant-loop-machine
invariant-loop-machine l = record {
  shorter : length l.left ≤ length l.text;
  same : outcome_of (length l.text + 1) (tokens_of plain l.text) ≡ outcome_at (length l.text + 1) (frames_of l.machine) l.machine.phase (tokens_left (length l.text + 1) l.left);
}

abbrev pub decreases-loop-machine : goal.decreases-loop-machine
decreases-loop-machine l = length l.left
