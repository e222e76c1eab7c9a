use Rattle.std.proofs.Common.{◌≡◌, drop}
use Rattle.std.specs.List.{list_any}
use Rattle.mlr_spec.specs.Tree.{is_collection}
use Rattle.mlr_json.proofs.write.has_collection.Given as goal

-- none of the items before was one
abbrev pub invariant-loop-place : goal.invariant-loop-place
invariant-loop-place l = list_any is_collection l.items ≡ list_any is_collection (drop l.place l.items)
