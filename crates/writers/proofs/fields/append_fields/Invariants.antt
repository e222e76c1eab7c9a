use Rattle.std.proofs.Common.{◌≡◌, ◌++◌, map, take}
use Rattle.mlr_record.specs.Fields.{pairs_of}
use Rattle.mlr_spec.specs.Json.{joined}
use Rattle.writers.proofs.fields.append_fields.Given as goal

abbrev pub invariant-loop-place : goal.invariant-loop-place
invariant-loop-place g l = l.out ≡ l.initial.out ++ joined l.separator (map (g.F.FieldText.text l.form) (pairs_of (take l.place l.fields)))
