use Rattle.std.proofs.Common.{◌≡◌}
use Rattle.mlr_record.specs.Fields.{pairs_of}
use Rattle.verbs_fields.proofs.Labels.{named_to}
use Rattle.verbs_fields.proofs.label.put_names.Given as goal

-- the fields before the place have their names
abbrev pub invariant-loop-place : goal.invariant-loop-place
invariant-loop-place l = pairs_of l.fields ≡ named_to l.names l.place (pairs_of l.fn.fields)
