-- `reshape` to wide: a record for each group of records that are equal in all other fields.
use Rattle.std.specs.Prelude.{ℕ, not, List, [], ◌∷◌, ◌++◌, map, Option, Some, None}
use Rattle.std.specs.List.{filter, filter_map}
use Rattle.std.specs.Option.{option_map, option_to_list}
use Rattle.std.specs.Str.{bytes_eq}
use Rattle.mlr_event.specs.Reading.{is_among}
use Rattle.mlr_event.specs.declared.event.Ctx.{Ctx}
use Rattle.mlr_groups.specs.Grouping.{each_once}
use Rattle.mlr_groups.specs.declared.group_by.GroupBy.TheVariants.{Others}
use Rattle.mlr_spec.specs.Pairs.{keys_of, put_each, value_at}
use Rattle.mlr_spec.specs.Tree.{Tree, empty}
use Rattle.text_forms.specs.Shown.{shown}
use Rattle.verbs_base.specs.Choosing.{dropped}
use Rattle.verbs_base.specs.Records.{Fields, RecordVerb, Row}
use Rattle.group_state.specs.AtEnd.{by_groups_or_pass}
use Rattle.verbs_reshape.specs.declared.to_wide.ToWide.{ToWide}

-- the names of the two fields
abbrev pub both : ToWide → List (List ℕ)
both options = options.key ∷ options.value ∷ []

-- the text of a record's key with its value, if it has both
abbrev pub paired : Option (List ℕ) → Option Tree → Option (List ℕ × Tree)
paired None value = None
paired (Some key) value = option_map (λ value. (key, value)) value

abbrev pub pair_in : ToWide → Fields → Option (List ℕ × Tree)
pair_in options fields = paired (option_map shown (value_at options.key fields)) (value_at options.value fields)

abbrev pub pairs_in : ToWide → List Row → Fields
pairs_in options rows = filter_map (λ row. pair_in options row.0) rows

-- the record of a group, if it has records: the other fields of the first one, and the pairs of all
abbrev pub wide_record : ToWide → List Row → Option Fields
wide_record options [] = None
wide_record options (row ∷ rows) = Some (put_each (dropped (both options) row.0) (pairs_in options (row ∷ rows)))

abbrev pub wide : ToWide → List Row → Ctx → List Row
wide options rows ctx = map (λ fields. (fields, ctx)) (option_to_list (wide_record options rows))

-- the keys of all records, in the order in which they come first
abbrev pub keys_in : ToWide → List Row → List (List ℕ)
keys_in options rows = each_once bytes_eq (keys_of (pairs_in options rows))

-- a record with an empty value, last, for each key that it lacks
abbrev pub filled : List (List ℕ) → Fields → Fields
filled keys fields = fields ++ map (λ key. (key, empty)) (filter (λ key. not (is_among (keys_of fields) key)) keys)

abbrev pub filled_rows : List (List ℕ) → List Row → List Row
filled_rows keys rows = map (λ row. (filled keys row.0, row.1)) rows

-- a verb whose records at the end get the keys that they lack
abbrev pub with_keys : (List Row → List (List ℕ)) → RecordVerb → RecordVerb
with_keys keys verb = record {
  gives = verb.gives;
  late = λ rows ctx. filled_rows (keys rows) (verb.late rows ctx);
  closed = verb.closed;
}

-- `reshape -s`: a record that lacks one of the two fields is in no group, and passes
abbrev pub to_wide : ToWide → RecordVerb
to_wide options = with_keys (keys_in options) (by_groups_or_pass (Others (both options)) (wide options))
