use Rattle.std.proofs.Common.{◌≡◌, ◌++◌, drop}
use Rattle.std.specs.List.{flat_map}
use Rattle.mlr_record.specs.Fields.{pairs_of}
use Rattle.text_columns.specs.Xtab.{xtab_line}
use Rattle.text_columns.proofs.xtab.append_lines.Given as goal

abbrev pub invariant-loop-field : goal.invariant-loop-field
invariant-loop-field l =
    l.out ++ flat_map (xtab_line l.width) (pairs_of (drop l.field-index l.fields)) ≡ l.initial.out ++ flat_map (xtab_line l.width) (pairs_of l.fields)
