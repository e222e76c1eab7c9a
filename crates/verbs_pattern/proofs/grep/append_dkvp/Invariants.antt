use Rattle.std.proofs.Common.{◌≡◌, ◌++◌, take}
use Rattle.verbs_pattern.specs.Grep.{record_text}
use Rattle.verbs_pattern.proofs.grep.append_dkvp.Given as goal

abbrev pub invariant-loop-place : goal.invariant-loop-place
invariant-loop-place l = l.out ≡ l.initial.out ++ record_text (take l.place l.fields)
