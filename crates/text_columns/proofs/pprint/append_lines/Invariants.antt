use Rattle.std.proofs.Common.{◌≡◌, ◌++◌, length}
use Rattle.std.specs.List.{flat_map}
use Rattle.text_columns.specs.Chunks.{lines_in}
use Rattle.text_columns.specs.Pprint.{pprint_line}
use Rattle.text_columns.proofs.pprint.append_lines.Given as goal

abbrev pub invariant-loop-rest : goal.invariant-loop-rest
invariant-loop-rest l =
    l.out ++ flat_map (pprint_line l.barred l.widths) (lines_in l.rest) ≡ l.initial.out ++ flat_map (pprint_line l.barred l.widths) (lines_in l.bytes)

abbrev pub decreases-loop-rest : goal.decreases-loop-rest
decreases-loop-rest l = length l.rest
