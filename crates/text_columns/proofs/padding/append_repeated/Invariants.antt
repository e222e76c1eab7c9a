use Rattle.std.proofs.Common.{◌≡◌, ◌++◌, replicate}
use Rattle.text_columns.proofs.padding.append_repeated.Given as goal

abbrev pub invariant-loop-done : goal.invariant-loop-done
invariant-loop-done l = l.out ≡ l.initial.out ++ replicate l._done l.byte
