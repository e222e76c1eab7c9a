-- `stats1`: statistics of the values of fields, of all records or of each group.
use Rattle.std.specs.Prelude.{ℕ, Bool, ◌&&◌, List, [], ◌∷◌, ◌++◌, is_some}
use Rattle.std.specs.List.{filter, flat_map}
use Rattle.std.specs.Option.{unwrap_or}
use Rattle.mlr_spec.specs.Pairs.{put_each, value_at}
use Rattle.mlr_groups.specs.declared.group_by.GroupBy.TheVariants.{Texts}
use Rattle.verbs_base.specs.Choosing.{picked}
use Rattle.verbs_base.specs.Records.{Fields, RecordVerb, records}
use Rattle.group_state.specs.AtEnd.{by_groups}
use Rattle.stat_base.specs.Values.{values_of}
use Rattle.stat_base.specs.declared.accumulator.Accumulator.{Accumulator}
use Rattle.mlr_stats.specs.Kept.{is_nil}
use Rattle.mlr_stats.specs.Statistic.{fields_of}
use Rattle.verbs_summary.specs.declared.stats1.Stats1.{Stats1}

-- whether a record has a field that no record before it has
abbrev pub is_newly_met : List Fields → Fields → List ℕ → Bool
is_newly_met before fields name = is_some (value_at name fields) && is_nil (values_of name before)

-- the names of the fields that a record has and no record before it
abbrev pub newly_met : List (List ℕ) → List Fields → Fields → List (List ℕ)
newly_met names before fields = filter (is_newly_met before fields) names

-- the names of the fields that some records have, in the order in which they come first; those that come first in one record are
-- in the order of the names
abbrev pub met_after : List (List ℕ) → List Fields → List Fields → List (List ℕ)
met_after names before [] = []
met_after names before (fields ∷ rest) = newly_met names before fields ++ met_after names (before ++ fields ∷ []) rest

abbrev pub met : List (List ℕ) → List Fields → List (List ℕ)
met names given = met_after names [] given

-- the grouping fields of the first record
abbrev pub group_fields : List (List ℕ) → List Fields → Fields
group_fields groups [] = []
group_fields groups (fields ∷ rest) = picked groups fields

-- what some records come to: their grouping fields, and the statistics of each field that they have
abbrev pub summarized : List Accumulator → List (List ℕ) → List (List ℕ) → List Fields → Fields
summarized accumulators names groups given =
    put_each (group_fields groups given) (flat_map (λ name. fields_of accumulators name (values_of name given)) (met names given))

abbrev pub stats1 : Stats1 → RecordVerb
stats1 options =
    let groups = unwrap_or options.groups [] in
    by_groups (Texts groups) (λ rows ctx. (summarized options.accumulators options.names groups (records rows), ctx) ∷ [])
