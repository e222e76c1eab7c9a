use Rattle.std.proofs.Common.{◌≡◌, ◌+◌, ◌++◌, length, drop, take, map}
use Rattle.std.specs.List.{zip}
use Rattle.mlr_spec.specs.Infer.{tree_of_data}
use Rattle.mlr_spec.specs.Pairs.{keys_of}
use Rattle.read_xtab_pprint.specs.Cells.{cells_left}
use Rattle.read_xtab_pprint.specs.Pprint.{words_of}
use Rattle.read_xtab_pprint.proofs.table.push_cells.Given as goal

-- adding the remaining cells gives the same record as adding all
abbrev pub invariant-loop-cell : goal.invariant-loop-cell
invariant-loop-cell l = record {
  fields : l.record ++ zip (drop l.place l.names) (map (tree_of_data l.opts.infer) (cells_left l.barred (words_of l.left)))
      ≡ zip l.names (map (tree_of_data l.opts.infer) (cells_left l.barred (words_of l.fn.line)));
  keys : keys_of l.record ≡ take l.place l.names;
  left : l.place + length (cells_left l.barred (words_of l.left)) ≡ length l.names;
}

abbrev pub decreases-loop-cell : goal.decreases-loop-cell
decreases-loop-cell l = length l.left
