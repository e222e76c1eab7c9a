use Rattle.std.proofs.Common.{◌≡◌, ◌+◌, ◌-◌, ◌≤◌, ◌++◌, length}
use Rattle.regex.specs.Bytes.{matcher_pattern}
use Rattle.mlr_pattern.specs.Groups.{rest_replaced}
use Rattle.mlr_pattern.proofs.replace.append_rest.Given as goal

abbrev pub invariant-loop-end : goal.invariant-loop-end
invariant-loop-end l =
    let re = matcher_pattern l.fn.matcher in
    let text = l.fn.text in record {
      same : matcher_pattern l.matcher ≡ re;
      within : l.after ≤ length text + 1;
      text : l.out ++ rest_replaced re text l.fn.by l.after ≡ l.fn.out ++ rest_replaced re text l.fn.by l.fn.after;
    }

abbrev pub decreases-loop-end : goal.decreases-loop-end
decreases-loop-end l = length l.fn.text + 1 - l.after
