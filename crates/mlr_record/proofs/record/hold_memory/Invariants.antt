use Rattle.std.proofs.Common.{◌≡◌, drop}
use Rattle.std.specs.List.{list_any}
use Rattle.mlr_spec.specs.Tree.{is_collection}
use Rattle.mlr_value.specs.Value.{tree_of}
use Rattle.mlr_record.proofs.record.hold_memory.Given as goal

abbrev pub invariant-loop-field : goal.invariant-loop-field
invariant-loop-field l = list_any (λ field. is_collection (tree_of field.value)) (drop l.field-index l.fields) ≡ list_any (λ field. is_collection (tree_of field.value)) l.fields
