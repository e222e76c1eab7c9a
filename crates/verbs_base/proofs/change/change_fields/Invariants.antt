use Rattle.std.proofs.Common.{◌≡◌, ◌++◌, length, take, drop}
use Rattle.verbs_base.specs.Changing.{changed}
use Rattle.verbs_base.proofs.change.change_fields.Given as goal

-- what was changed and what remains to change make up the whole
abbrev pub invariant-loop-place : goal.invariant-loop-place
invariant-loop-place g l = record {
  takes : g.C.Change.takes l.change ≡ g.C.Change.takes l.fn.change;
  image : g.C.Change.image l.change ≡ g.C.Change.image l.fn.change;
  fields : take l.place l.fields ++ changed (g.C.Change.takes l.fn.change) (g.C.Change.image l.fn.change) (drop l.place l.fields) ≡ changed (g.C.Change.takes l.fn.change) (g.C.Change.image l.fn.change) l.fn.fields;
  count : length l.fields ≡ length l.fn.fields;
}
