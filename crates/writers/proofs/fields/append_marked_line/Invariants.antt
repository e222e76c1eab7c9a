use Rattle.std.proofs.Common.{◌≡◌, ◌++◌, drop}
use Rattle.mlr_record.specs.Fields.{pairs_of}
use Rattle.writers.proofs.Joined.{marked}
use Rattle.writers.proofs.fields.append_marked_line.Given as goal

abbrev pub invariant-loop-place : goal.invariant-loop-place
invariant-loop-place g l =
    l.out ++ marked l.separator 10 (g.F.FieldText.text l.form) (pairs_of (drop l.place l.fields)) ≡ l.initial.out ++ marked l.separator 10 (g.F.FieldText.text l.form) (pairs_of l.fields)
