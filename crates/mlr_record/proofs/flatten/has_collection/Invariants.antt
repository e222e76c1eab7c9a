use Rattle.std.proofs.Common.{◌≡◌, drop}
use Rattle.std.specs.List.{list_any}
use Rattle.mlr_spec.specs.Tree.{is_collection}
use Rattle.mlr_record.proofs.flatten.has_collection.Given as goal

abbrev pub invariant-loop-place : goal.invariant-loop-place
invariant-loop-place l = list_any (λ pair. is_collection pair.1) (drop l.place l.from) ≡ list_any (λ pair. is_collection pair.1) l.from
