-- Records that `nest` takes apart and puts together again.
use Rattle.std.specs.Prelude.{◌≡◌, ◌≢◌, ℕ, true, List, [], ◌∷◌, map, Some, AllPairs}
use Rattle.std.specs.List.{flat_map}
use Rattle.mlr_spec.specs.JsonGrammar.{text_value}
use Rattle.mlr_spec.specs.Pairs.{are_distinct, keys_of, value_at}
use Rattle.mlr_groups.specs.Grouping.{common_in}
use Rattle.mlr_groups.specs.declared.group_by.GroupBy.TheVariants.{Others}
use Rattle.verbs_base.specs.Records.{Row}
use Rattle.verbs_nest.specs.Nest.{nest}
use Rattle.verbs_nest.specs.declared.nest.Nest.{Nest}
use Rattle.verbs_nest.specs.declared.nest.NestForm.TheVariants.{Implode, ValuesAcrossRecords}

-- the options of `--evar` and of `--ivar`, with the field and the separators of these
abbrev pub evar : Nest → Nest
evar options = record { field = options.field; form = ValuesAcrossRecords; separator = options.separator; pair_separator = options.pair_separator }

abbrev pub ivar : Nest → Nest
ivar options = record { field = options.field; form = Implode; separator = options.separator; pair_separator = options.pair_separator }

-- a record with distinct names, which has a text in a field, as data gives it: a string or the empty value
abbrev pub HasText : List ℕ → Row → Type 0
HasText name row = (are_distinct (keys_of row.0) ≡ true) × (text : List ℕ) × (value_at name row.0 ≡ Some (text_value text))

-- no two records are equal in all fields but one
abbrev pub AreApart : List ℕ → List Row → Type 0
AreApart name rows = AllPairs (λ (row other : Row). common_in (Others (name ∷ [])) row.0 ≢ common_in (Others (name ∷ [])) other.0) rows

-- what `--evar` makes of each record, with the context of the record
abbrev pub exploded_rows : Nest → List Row → List Row
exploded_rows options rows = flat_map (λ row. map (λ fields. (fields, row.1)) ((nest (evar options)).gives [] row.0)) rows
