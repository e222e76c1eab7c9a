use Rattle.std.proofs.Common.{◌≡◌, ◌+◌, ◌-◌, ◌≤◌, length, drop}
use Rattle.mlr_event.specs.Rows.{with_fields}
use Rattle.std.specs.Vec.{vec_len}
use Rattle.read_csv.specs.OpenRow.{values_in}
use Rattle.read_csv.specs.Rows.{positions_from}
use Rattle.read_csv.proofs.records.put_surplus.Given as goal

-- adding the remaining values gives the same record as adding all
abbrev pub invariant-loop-place : goal.invariant-loop-place
invariant-loop-place l = record {
  fields : with_fields l.dedupe l.into (positions_from (l.place + 1) (vec_len l.fields - l.place)) (values_in (drop l.place l.fields.items))
      ≡ with_fields l.dedupe l.fn.into (positions_from (l.named + 1) (vec_len l.fn.fields - l.named)) (values_in (drop l.named l.fn.fields.items));
  len : vec_len l.fields ≡ vec_len l.fn.fields;
  few : length l.into ≤ l.place;
}
