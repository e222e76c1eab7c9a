use Rattle.std.proofs.Common.{◌≡◌, take}
use Rattle.mlr_spec.specs.Pairs.{keys_of}
use Rattle.mlr_fields.proofs.name_index.NameIndex.add_names.Given as goal

abbrev pub invariant-loop-place : goal.invariant-loop-place
invariant-loop-place l = l.self ≡ take l.place (keys_of l.record)
