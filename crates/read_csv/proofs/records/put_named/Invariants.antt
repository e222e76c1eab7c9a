use Rattle.std.proofs.Common.{◌≡◌, [], take, drop}
use Rattle.mlr_event.specs.Rows.{with_fields}
use Rattle.std.specs.Vec.{vec_len}
use Rattle.read_csv.specs.OpenRow.{values_in}
use Rattle.read_csv.proofs.records.put_named.Given as goal

abbrev pub invariant-loop-place : goal.invariant-loop-place
invariant-loop-place l = record {
  fields : l.into ≡ with_fields l.dedupe [] (take l.place l.header) (take l.place (values_in l.fn.fields.items));
  rest : values_in (drop l.place l.fields.items) ≡ values_in (drop l.place l.fn.fields.items);
  len : vec_len l.fields ≡ vec_len l.fn.fields;
}
