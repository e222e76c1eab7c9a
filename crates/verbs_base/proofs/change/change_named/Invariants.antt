use Rattle.std.proofs.Common.{◌≡◌, drop}
use Rattle.mlr_event.specs.Reading.{is_among}
use Rattle.verbs_base.specs.Changing.{changed}
use Rattle.verbs_base.proofs.change.change_named.Given as goal

-- what the remaining names change makes up the whole
abbrev pub invariant-loop-name : goal.invariant-loop-name
invariant-loop-name g l = record {
  image : g.C.Change.image l.change ≡ g.C.Change.image l.fn.change;
  fields : changed (is_among (drop l.name-index l.name-items)) (g.C.Change.image l.fn.change) l.record ≡ changed (is_among l.name-items) (g.C.Change.image l.fn.change) l.fn.from;
}
