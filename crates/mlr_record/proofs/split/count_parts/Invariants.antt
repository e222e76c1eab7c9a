use Rattle.std.proofs.Common.{◌≡◌, ◌+◌, ◌≤◌, length}
use Rattle.mlr_spec.specs.Split.{split_by}
use Rattle.mlr_record.proofs.split.count_parts.Given as goal

abbrev pub invariant-loop-rest : goal.invariant-loop-rest
invariant-loop-rest l = record {
  counted : length (split_by l.separator l.fn.text) + 1 ≡ l.count + length (split_by l.separator l.left);
  small : l.count + length l.left ≤ length l.fn.text + 1;
}

abbrev pub decreases-loop-rest : goal.decreases-loop-rest
decreases-loop-rest l = length l.left
