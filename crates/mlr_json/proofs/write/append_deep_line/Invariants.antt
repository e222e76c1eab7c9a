use Rattle.std.proofs.Common.{◌≡◌, ◌++◌, ◌*◌, replicate}
use Rattle.mlr_json.proofs.write.append_deep_line.Given as goal

abbrev pub invariant-loop-done : goal.invariant-loop-done
invariant-loop-done l = l.into ≡ l.initial.into ++ replicate (2 * l._done) 32
