use Rattle.std.proofs.Common.{◌≡◌, ◌≤◌, length, take, drop}
use Rattle.std.specs.List.{zip}
use Rattle.std.specs.Vec.{vec_capacity, vec_len}
use Rattle.mlr_record.specs.Fields.{pairs_of}
use Rattle.read_csv.specs.Naming.{with_values}
use Rattle.read_csv.specs.OpenRow.{csv_reading, no_row, row_with, values_in}
use Rattle.read_csv.proofs.plain.take_between.Given as goal

-- the fields have the first names, and reading the remaining text gives the same row as reading the whole text
abbrev pub invariant-loop-name : goal.invariant-loop-name
invariant-loop-name g l = record {
  names : pairs_of l.fields.items ≡ zip (take l.name-index l.names) (values_in l.fields.items);
  values : row_with l.opts.infer (with_values (values_in l.fields.items)) (csv_reading l.opts.ifs (drop l.from l.text)) ≡ row_with l.opts.infer no_row (csv_reading l.opts.ifs l.text);
  len : vec_len l.fields ≡ l.name-index;
  room : length l.names ≤ vec_capacity l.fields;
  within : l.from ≤ length l.text;
}
