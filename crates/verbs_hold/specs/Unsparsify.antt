-- `unsparsify`: each record with the fields of all.
use Rattle.std.specs.Prelude.{ℕ, List, map, Some, None}
use Rattle.std.specs.List.{flat_map}
use Rattle.mlr_spec.specs.Pairs.{keys_of}
use Rattle.verbs_base.specs.Choosing.{once}
use Rattle.verbs_base.specs.Records.{Fields, RecordVerb, Row, each, maps}
use Rattle.verbs_fields.specs.Template.{field_or}
use Rattle.group_state.specs.AtEnd.{at_end}
use Rattle.verbs_hold.specs.declared.unsparsify.Unsparsify.{Unsparsify}
use Rattle.verbs_hold.specs.UnsparsifyFields.{unsparsify_fields}

-- the names of all records, in the order in which they come first
abbrev pub all_names : List Row → List (List ℕ)
all_names rows = once (flat_map (λ row. keys_of row.0) rows)

-- a record with all these fields, of which those that it lacks have the text as their value
abbrev pub filled : List ℕ → List (List ℕ) → Fields → Fields
filled fill names fields = map (field_or fill fields) names

-- each record with the fields of all
abbrev pub filled_rows : List ℕ → List Row → List Row
filled_rows fill rows = map (λ row. (filled fill (all_names rows) row.0, row.1)) rows

abbrev pub unsparsify_rows : List ℕ → RecordVerb
unsparsify_rows fill = at_end (λ rows ctx. filled_rows fill rows)

abbrev pub unsparsify : Unsparsify → RecordVerb
unsparsify options = elim options.names [
  | None ↦ unsparsify_rows options.fill
  | Some names ↦ each (maps (unsparsify_fields options.fill names))
]
