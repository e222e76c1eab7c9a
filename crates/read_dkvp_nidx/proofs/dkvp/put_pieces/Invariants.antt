use Rattle.std.proofs.Common.{◌≡◌, ◌+◌, ◌<◌, ◌≤◌, [], length}
use Rattle.mlr_spec.specs.Split.{split_by}
use Rattle.mlr_event.specs.Rows.{with_fields}
use Rattle.read_dkvp_nidx.specs.Dkvp.{keys_from, values_from}
use Rattle.read_dkvp_nidx.proofs.dkvp.put_pieces.Given as goal

-- adding the remaining pieces gives the same record as adding all
abbrev pub invariant-loop-rest : goal.invariant-loop-rest
invariant-loop-rest l = record {
  fields : with_fields l.opts.dedupe l.record (keys_from l.opts.ips l.position (split_by l.opts.ifs l.left)) (values_from l.opts (split_by l.opts.ifs l.left))
      ≡ with_fields l.opts.dedupe [] (keys_from l.opts.ips 1 (split_by l.opts.ifs l.fn.line)) (values_from l.opts (split_by l.opts.ifs l.fn.line));
  few : length l.record < l.position;
  small : l.position + length l.left ≤ length l.fn.line + 1;
}

abbrev pub decreases-loop-rest : goal.decreases-loop-rest
decreases-loop-rest l = length l.left
