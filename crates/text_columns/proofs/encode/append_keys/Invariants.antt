use Rattle.std.proofs.Common.{◌≡◌, ◌++◌, drop}
use Rattle.std.specs.List.{flat_map}
use Rattle.text_columns.proofs.Encoding.{key_cell}
use Rattle.text_columns.proofs.encode.append_keys.Given as goal

abbrev pub invariant-loop-field : goal.invariant-loop-field
invariant-loop-field l = l.line ++ flat_map key_cell (drop l.field-index l.fields) ≡ l.initial.line ++ flat_map key_cell l.fields
