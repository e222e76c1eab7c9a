-- `reshape` to long and back to wide.
use Rattle.std.specs.Prelude.{◌≡◌, ◌≤◌, ℕ, true, false, List, ◌++◌, length}
use Rattle.std.specs.Str.{bytes_eq}
use Rattle.mlr_event.specs.Reading.{is_among}
use Rattle.mlr_spec.specs.Pairs.{are_distinct, keys_of}
use Rattle.verbs_base.specs.Records.{Fields}
use Rattle.verbs_reshape.specs.ToLong.{others, selected}
use Rattle.verbs_reshape.specs.declared.to_long.LongFields.{LongFields}
use Rattle.verbs_reshape.specs.declared.to_long.ToLong.{ToLong}
use Rattle.verbs_reshape.specs.declared.to_wide.ToWide.{ToWide}

-- the options of `reshape` back, with the same key and value
abbrev pub back : ToLong → ToWide
back options = record { key = options.key; value = options.value }

-- the other fields, and after them the selected ones
abbrev pub parted : LongFields → Fields → Fields
parted which fields = others which fields ++ selected which fields

-- A record has distinct names and selected fields, and key and value are two names that none of its other fields has.
pub record ComesBack (options : ToLong) (fields : Fields) : Type 0 where
  pub distinct : are_distinct (keys_of fields) ≡ true
  pub selects : 1 ≤ length (selected options.fields fields)
  pub two_names : bytes_eq options.key options.value ≡ false
  pub key_free : is_among (keys_of (others options.fields fields)) options.key ≡ false
  pub value_free : is_among (keys_of (others options.fields fields)) options.value ≡ false

-- the names of a record's selected fields are these, in any order
abbrev pub HasSelected : ToLong → List (List ℕ) → Fields → Type 0
HasSelected options names fields = (name : List ℕ) → is_among (keys_of (selected options.fields fields)) name ≡ is_among names name
