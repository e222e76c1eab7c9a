use Rattle.std.proofs.Common.{◌≡◌, take}
use Rattle.read_csv.specs.OpenRow.{values_in}
use Rattle.read_csv.proofs.Recording.{names_in}
use Rattle.read_csv.proofs.records.name_fields.Given as goal

-- the first fields have their names, and each field has its value still
abbrev pub invariant-loop-place : goal.invariant-loop-place
invariant-loop-place l = record {
  names : take l.place (names_in l.fields) ≡ take l.place l.names;
  values : values_in l.fields ≡ values_in l.fn.fields;
}
