use Rattle.std.proofs.Common.{◌≡◌, ◌≤◌, [], length, drop, map}
use Rattle.mlr_spec.specs.Infer.{tree_of_data}
use Rattle.mlr_event.specs.Rows.{with_fields}
use Rattle.read_dkvp_nidx.proofs.markdown.put_cells.Given as goal

-- adding the remaining cells gives the same record as adding all
abbrev pub invariant-loop-i : goal.invariant-loop-i
invariant-loop-i l = record {
  fields : with_fields l.opts.dedupe l.record (drop l.i l.names) (map (tree_of_data l.opts.infer) (drop l.i l.cells)) ≡ with_fields l.opts.dedupe [] l.names (map (tree_of_data l.opts.infer) l.cells);
  few : length l.record ≤ l.i;
}
