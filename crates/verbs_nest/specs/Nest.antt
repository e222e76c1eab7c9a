-- `nest`: a value exploded into records or fields, and values imploded into one.
use Rattle.std.specs.Prelude.{ℕ, if◌then◌else◌, List, [], ◌∷◌, map, Some, None}
use Rattle.std.specs.List.{flat_map}
use Rattle.std.specs.Option.{option_map}
use Rattle.std.specs.Str.{bytes_eq}
use Rattle.mlr_spec.specs.JsonGrammar.{text_value}
use Rattle.mlr_spec.specs.Pairs.{put_each, value_at}
use Rattle.mlr_spec.specs.Tree.{Tree}
use Rattle.mlr_groups.specs.declared.group_by.GroupBy.TheVariants.{Others}
use Rattle.text_forms.specs.Shown.{shown}
use Rattle.verbs_base.specs.Records.{Fields, RecordVerb, each}
use Rattle.group_state.specs.AtEnd.{by_groups_or_pass}
use Rattle.verbs_nest.specs.declared.nest.Nest.{Nest}
use Rattle.verbs_nest.specs.declared.nest.NestForm.TheVariants as form
use Rattle.verbs_nest.specs.Implode.{imploded}
use Rattle.verbs_nest.specs.Pieces.{numbered, pair_of_piece, pieces_of}

-- a field, or these fields in the place of the named one
abbrev pub in_place : List ℕ → Fields → List ℕ × Tree → Fields
in_place name made field = if bytes_eq field.0 name then made else field ∷ []

-- the record with these fields in the place of the named one; names that become equal keep the first place and the last value
abbrev pub replaced : List ℕ → Fields → Fields → Fields
replaced name made fields = put_each [] (flat_map (in_place name made) fields)

-- the records that a record becomes: one for each list of fields that are made of the pieces of the field's text; a record
-- without the field passes
abbrev pub exploded : List ℕ → List ℕ → (List (List ℕ) → List Fields) → Fields → List Fields
exploded name separator make fields = elim (option_map shown (value_at name fields)) [
  | Some text ↦ map (λ made. replaced name made fields) (make (pieces_of separator text))
  | None ↦ fields ∷ []
]

abbrev pub nest : Nest → RecordVerb
nest options = elim options.form [
  | form.ValuesAcrossRecords ↦ each (exploded options.field options.separator (λ pieces. map (λ piece. (options.field, text_value piece) ∷ []) pieces))
  | form.ValuesAcrossFields ↦ each (exploded options.field options.separator (λ pieces. numbered options.field 1 pieces ∷ []))
  | form.PairsAcrossRecords ↦ each (exploded options.field options.separator (λ pieces. map (λ piece. pair_of_piece options.field options.pair_separator piece ∷ []) pieces))
  | form.PairsAcrossFields ↦ each (exploded options.field options.separator (λ pieces. map (pair_of_piece options.field options.pair_separator) pieces ∷ []))
  | form.Implode ↦ by_groups_or_pass (Others (options.field ∷ [])) (imploded options.field options.separator)
]
