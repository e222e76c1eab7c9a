use Rattle.std.proofs.Common.{◌≡◌, ◌++◌}
use Rattle.verbs_seq.specs.Seq.{seq_events}
use Rattle.verbs_seq.proofs.source.push_numbers.Given as goal

abbrev pub invariant-loop-place : goal.invariant-loop-place
invariant-loop-place l = l.out ≡ l.fn.out ++ seq_events l.seq l.from l.place
