use Rattle.std.proofs.Common.{◌≡◌, ◌+◌, ◌-◌, ◌++◌, ◌∙◌, ap, ap₂, arith, sym}
use Rattle.std.specs.Prelude.{nat_lt}
use Rattle.mlr_spec.specs.Json.{joined}
use Rattle.text_columns.specs.Chunks.{after_cells, cells}
use Rattle.text_columns.specs.Columns.{column_gap, column_text, in_columns}
use Rattle.text_columns.proofs.Written.{after_cells-next, after_cells-none, columns-done, columns-next}
use Rattle.text_columns.proofs.pprint.append_cells.Goals as goal

pub loop-column-preserved : goal.loop-column-preserved
loop-column-preserved c =
    let column = c.loop-column.column in
    let count = c.args.count in
    let bytes = c.loop-column.rest.now in
    record {
      text =
          columns-next c.args.barred c.args.widths.now count column bytes c.first_cell-length.result.2.now c.loop-column.out c.append_column.new.out c.loop-column-test.true c.first_cell-length.ensures.rest
          (c.in_ok-append_column.ensures
          ∙ ap₂ (λ width text. c.loop-column.out ++ column_text c.args.barred (nat_lt (column + 1) count) width text) c.width_at-width.ensures c.first_cell-length.ensures.text)
          ∙ c.loop-column.invariant.text;
      rest =
          ap (after_cells (count - (column + 1))) c.first_cell-length.ensures.rest
          ∙ sym (after_cells-next count column bytes c.loop-column-test.true)
          ∙ c.loop-column.invariant.rest;
    }

pub returns-clause-text : goal.returns-clause-text
returns-clause-text c =
    columns-done c.args.barred c.args.widths.now c.args.count c.loop-column.column c.loop-column.rest.now c.loop-column.out
    (c.args.out.now ++ joined (column_gap c.args.barred) (in_columns c.args.barred c.args.widths.now (cells c.args.count c.args.bytes.now)))
    c.loop-column-test.false c.loop-column.invariant.text

pub returns-clause-rest : goal.returns-clause-rest
returns-clause-rest c =
    let none : c.args.count - c.loop-column.column ≡ 0 = omega (arith, c.loop-column-test.false) in
    sym (after_cells-none (c.args.count - c.loop-column.column) c.loop-column.rest.now none) ∙ c.loop-column.invariant.rest
