use Rattle.std.proofs.Common.{◌≡◌, drop}
use Rattle.std.specs.List.{fold}
use Rattle.mlr_groups.specs.Keys.{entered}
use Rattle.mlr_spec.specs.Pairs.{keys_of}
use Rattle.verbs_hold.proofs.unsparsify.add_names.Given as goal

-- the names so far with the remaining ones are all of them
abbrev pub invariant-loop-field : goal.invariant-loop-field
invariant-loop-field l = record {
  seen : fold entered l.seen (drop l.field-index (keys_of l.fn.fields)) ≡ fold entered l.fn.seen (keys_of l.fn.fields);
  names : l.names ≡ l.seen;
}
