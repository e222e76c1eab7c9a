use Rattle.std.proofs.Common.{◌≡◌, map, take}
use Rattle.mlr_spec.specs.Tree.{text_of}
use Rattle.read_csv.specs.OpenRow.{values_in}
use Rattle.read_csv.proofs.records.texts.Given as goal

abbrev pub invariant-loop-field : goal.invariant-loop-field
invariant-loop-field l = l.made.items ≡ map text_of (values_in (take l.field-index l.fields))
