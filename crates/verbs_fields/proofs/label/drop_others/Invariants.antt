use Rattle.std.proofs.Common.{drop}
use Rattle.mlr_record.specs.Fields.{pairs_of}
use Rattle.verbs_fields.proofs.Labels.{IsDropping}
use Rattle.verbs_fields.proofs.label.drop_others.Given as goal

-- the fields after the first ones that have one of the names before are dropped
abbrev pub invariant-loop-name : goal.invariant-loop-name
invariant-loop-name l = IsDropping l.names (drop l.name-index l.names) l.first (pairs_of l.fn.fields.items) l.fields.items
