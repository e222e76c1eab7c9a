use Rattle.std.proofs.Common.{◌≤◌, length, take, drop, true}
use Rattle.mlr_record.specs.Fields.{pairs_of}
use Rattle.verbs_base.proofs.Moving.{IsPlacing}
use Rattle.verbs_base.proofs.extraction.move_named_last.Given as goal

-- the fields that were moved follow the rest
abbrev pub invariant-loop-name : goal.invariant-loop-name
invariant-loop-name l = record {
  within : l.rest ≤ length (pairs_of l.fields);
  placing : IsPlacing true l.names (drop l.name-index l.names) (pairs_of l.fn.fields) (drop l.rest (pairs_of l.fields)) (take l.rest (pairs_of l.fields));
}
