use Rattle.verbs_seq.specs.TestSource.{CanFill}
use Rattle.verbs_seq.proofs.tests.nine.Given as goal

-- the source may be asked for more records
abbrev pub invariant-loop : goal.invariant-loop
invariant-loop l = CanFill l.source
