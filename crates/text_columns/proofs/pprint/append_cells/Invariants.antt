use Rattle.std.proofs.Common.{◌≡◌, ◌++◌, ◌-◌, drop}
use Rattle.mlr_spec.specs.Json.{joined}
use Rattle.text_columns.specs.Chunks.{after_cells, cells}
use Rattle.text_columns.specs.Columns.{column_gap, in_columns}
use Rattle.text_columns.proofs.pprint.append_cells.Given as goal

abbrev pub invariant-loop-column : goal.invariant-loop-column
invariant-loop-column l = record {
  text :
      l.out ++ joined (column_gap l.barred) (in_columns l.barred (drop l.column l.widths) (cells (l.count - l.column) l.rest))
      ≡ l.initial.out ++ joined (column_gap l.barred) (in_columns l.barred l.widths (cells l.count l.bytes));
  rest : after_cells (l.count - l.column) l.rest ≡ after_cells l.count l.bytes;
}
