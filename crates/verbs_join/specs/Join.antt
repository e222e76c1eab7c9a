-- `join`: records paired with the records of a left file.
use Rattle.std.specs.Prelude.{ℕ, Bool, false, not, if◌then◌else◌, List, [], ◌∷◌, ◌++◌, map, Option, Some, None}
use Rattle.std.specs.List.{filter, filter_map, list_any, zip}
use Rattle.std.specs.Option.{option_map, unwrap_or}
use Rattle.mlr_spec.specs.Tree.{Tree}
use Rattle.mlr_spec.specs.Pairs.{keys_of, put_each, value_at}
use Rattle.mlr_event.specs.Reading.{is_among}
use Rattle.mlr_event.specs.declared.event.Event.{Event}
use Rattle.mlr_groups.specs.Grouping.{group_of, is_in}
use Rattle.mlr_groups.specs.declared.group_by.GroupBy.TheVariants.{Texts}
use Rattle.verbs_base.specs.Choosing.{dropped}
use Rattle.verbs_base.specs.Records.{Fields, RecordVerb, records, rows_in}
use Rattle.verbs_join.specs.declared.join.Join.{Join}

-- the records of a left file
abbrev pub lefts_in : List Event → List Fields
lefts_in events = records (rows_in events)

-- whether two records pair: the left one is in the group of the right one's texts; without a join field neither pairs
abbrev pub pairs_with : Join → Fields → Fields → Bool
pairs_with options left right = elim (group_of options.right right) [
  | Some texts ↦ is_in (Texts options.left) texts left
  | None ↦ false
]

-- the left records that a right one pairs with
abbrev pub partners : Join → List Fields → Fields → List Fields
partners options lefts right = filter (λ left. pairs_with options left right) lefts

-- the left records that pair with no right one
abbrev pub unpaired : Join → List Fields → List Fields → List Fields
unpaired options lefts rights = filter (λ left. not (list_any (pairs_with options left) rights)) lefts

-- the join fields of a pair, with the left record's values
abbrev pub joined_field : Fields → List ℕ × List ℕ → Option (List ℕ × Tree)
joined_field left names = option_map (λ value. (names.0, value)) (value_at names.1 left)

abbrev pub joined : Join → Fields → Fields
joined options left = filter_map (joined_field left) (zip options.output options.left)

-- fields, each with the prefix before its name if the others have that name too
abbrev pub prefix_for : Option (List ℕ) → Fields → List ℕ → List ℕ
prefix_for prefix others name = if is_among (keys_of others) name then unwrap_or prefix [] else []

abbrev pub prefixed : (List ℕ → List ℕ) → Fields → Fields
prefixed prefix fields = map (λ field. (prefix field.0 ++ field.0, field.1)) fields

-- a pair: the join fields, the left record's other fields, and the right one's; of fields with one name the first keeps its
-- place, and the last gives the value
abbrev pub pair_of : Join → Fields → Fields → Fields
pair_of options left right =
    put_each [] (joined options left
    ++ prefixed (prefix_for options.left_prefix (dropped options.right right)) (dropped options.left left)
    ++ prefixed (prefix_for options.right_prefix (dropped options.left left)) (dropped options.right right))

-- what a right record gives: its pairs, in the order of the left records, or itself if it has none
abbrev pub join_gives : Join → List Fields → Fields → List Fields
join_gives options lefts right =
    if list_any (λ left. pairs_with options left right) lefts
    then (if options.pairs then map (λ left. pair_of options left right) (partners options lefts right) else [])
    else (if options.right_unpaired then right ∷ [] else [])

-- the end gives the left records without a pair
abbrev pub join : Join → List Fields → RecordVerb
join options lefts = record {
  gives = λ before right. join_gives options lefts right;
  late = λ rows ctx. if options.left_unpaired then map (λ left. (left, ctx)) (unpaired options lefts (records rows)) else [];
  closed = λ before. false;
}
