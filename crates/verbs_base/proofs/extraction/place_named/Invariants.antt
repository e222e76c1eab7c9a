use Rattle.std.proofs.Common.{◌≤◌, length, take, drop}
use Rattle.mlr_record.specs.Fields.{pairs_of}
use Rattle.verbs_base.proofs.Moving.{IsPlacing}
use Rattle.verbs_base.proofs.extraction.place_named.Given as goal

abbrev pub invariant-loop-name : goal.invariant-loop-name
invariant-loop-name l = record {
  within : l.count ≤ length (pairs_of l.fields);
  placing : IsPlacing l.keeps_order l.names (drop l.name-index l.names) (pairs_of l.fn.fields) (take l.count (pairs_of l.fields)) (drop l.count (pairs_of l.fields));
}
