use Rattle.std.proofs.Common.{◌≡◌, ◌+◌, ◌≤◌, length, take}
use Rattle.std.specs.List.{suffix_len}
use Rattle.read_dkvp_nidx.specs.Markdown.{is_space}
use Rattle.read_dkvp_nidx.proofs.cells.spaces_after.Given as goal

abbrev pub invariant-loop-left : goal.invariant-loop-left
invariant-loop-left l = record {
  counted : l.left + suffix_len is_space l.text ≡ length l.text + suffix_len is_space (take l.left l.text);
  inside : l.left ≤ length l.text;
}

abbrev pub decreases-loop-left : goal.decreases-loop-left
decreases-loop-left l = l.left
