use Rattle.std.proofs.Common.{◌≡◌, ◌++◌, ◌-◌, drop, length, take}
use Rattle.text_columns.specs.Chunks.{cells}
use Rattle.text_columns.specs.Columns.{widened}
use Rattle.text_columns.proofs.widths.widen.Given as goal

abbrev pub invariant-loop-column : goal.invariant-loop-column
invariant-loop-column l = record {
  done :
      take l.column l.widths ++ widened (cells (l.count - l.column) l.rest) (drop l.column l.widths)
      ≡ widened (cells l.count l.initial.rest) l.initial.widths;
  same : length l.widths ≡ length l.initial.widths;
}
