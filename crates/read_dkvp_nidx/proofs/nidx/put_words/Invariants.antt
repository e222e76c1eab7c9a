use Rattle.std.proofs.Common.{◌≡◌, ◌+◌, ◌≤◌, ◌++◌, length}
use Rattle.read_dkvp_nidx.specs.Nidx.{by_position, words_of}
use Rattle.read_dkvp_nidx.proofs.Piecewise.{AreFree}
use Rattle.read_dkvp_nidx.proofs.nidx.put_words.Given as goal

-- adding the remaining words gives the same record as adding all
abbrev pub invariant-loop-position : goal.invariant-loop-position
invariant-loop-position l = record {
  fields : l.record ++ by_position l.opts l.position (words_of l.opts.ifs l.left) ≡ by_position l.opts 1 (words_of l.opts.ifs l.fn.line);
  free : AreFree l.position l.record;
  small : l.position + length l.left ≤ length l.fn.line + 1;
}

abbrev pub decreases-loop-position : goal.decreases-loop-position
decreases-loop-position l = length l.left
