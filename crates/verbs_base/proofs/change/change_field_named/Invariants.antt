use Rattle.std.proofs.Common.{◌≡◌, false, take}
use Rattle.std.specs.List.{list_any}
use Rattle.std.specs.Str.{bytes_eq}
use Rattle.mlr_spec.specs.Pairs.{keys_of}
use Rattle.verbs_base.proofs.change.change_field_named.Given as goal

-- nothing has changed, and none of the fields so far has the name
abbrev pub invariant-loop-place : goal.invariant-loop-place
invariant-loop-place g l = record {
  change : l.change ≡ l.fn.change;
  fields : l.fields ≡ l.fn.fields;
  absent : list_any (bytes_eq l.name) (keys_of (take l.place l.fields)) ≡ false;
}
