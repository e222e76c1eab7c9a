use Rattle.std.proofs.Common.{◌≡◌, ◌++◌, drop, take, map}
use Rattle.std.specs.List.{zip}
use Rattle.mlr_spec.specs.Infer.{tree_of_data}
use Rattle.mlr_spec.specs.Pairs.{keys_of}
use Rattle.read_dkvp_nidx.proofs.markdown.push_cells.Given as goal

-- adding the remaining cells gives the same record as adding all
abbrev pub invariant-loop-i : goal.invariant-loop-i
invariant-loop-i l = record {
  fields : l.record ++ zip (drop l.i l.names) (map (tree_of_data l.opts.infer) (drop l.i l.cells)) ≡ zip l.names (map (tree_of_data l.opts.infer) l.cells);
  keys : keys_of l.record ≡ take l.i l.names;
}
