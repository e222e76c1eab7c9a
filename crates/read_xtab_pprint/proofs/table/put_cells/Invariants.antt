use Rattle.std.proofs.Common.{◌≡◌, ◌+◌, ◌≤◌, [], length, drop, map}
use Rattle.mlr_spec.specs.Infer.{tree_of_data}
use Rattle.mlr_event.specs.Rows.{with_fields}
use Rattle.read_xtab_pprint.specs.Cells.{cells_left}
use Rattle.read_xtab_pprint.specs.Pprint.{words_of}
use Rattle.read_xtab_pprint.proofs.table.put_cells.Given as goal

-- adding the remaining cells gives the same record as adding all
abbrev pub invariant-loop-cell : goal.invariant-loop-cell
invariant-loop-cell l = record {
  fields : with_fields l.opts.dedupe l.record (drop l.place l.header) (map (tree_of_data l.opts.infer) (cells_left l.barred (words_of l.left)))
      ≡ with_fields l.opts.dedupe [] l.header (map (tree_of_data l.opts.infer) (cells_left l.barred (words_of l.fn.line)));
  left : l.place + length (cells_left l.barred (words_of l.left)) ≡ length l.header;
  few : length l.record ≤ l.place;
}

abbrev pub decreases-loop-cell : goal.decreases-loop-cell
decreases-loop-cell l = length l.left
