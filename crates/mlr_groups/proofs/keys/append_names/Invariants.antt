use Rattle.std.proofs.Common.{◌≡◌, ◌++◌, drop}
use Rattle.mlr_spec.specs.Pairs.{keys_of}
use Rattle.mlr_record.specs.Fields.{pairs_of}
use Rattle.mlr_groups.specs.Keys.{key_of}
use Rattle.mlr_groups.proofs.keys.append_names.Given as goal

-- the key so far with the names of the remaining fields is the key of all of them
abbrev pub invariant-loop-field : goal.invariant-loop-field
invariant-loop-field l = l.key ++ key_of (keys_of (pairs_of (drop l.field-index l.field-items))) ≡ l.fn.key ++ key_of (keys_of (pairs_of l.field-items))
