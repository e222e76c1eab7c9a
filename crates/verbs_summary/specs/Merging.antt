-- The parts of `merge-fields`, and what it has at hand for a list of records.
use Rattle.std.specs.Prelude.{◌≡◌, ℕ, not, List, map, is_some}
use Rattle.std.specs.List.{filter, filter_map}
use Rattle.mlr_spec.specs.Pairs.{value_at}
use Rattle.mlr_spec.specs.Tree.{Tree}
use Rattle.mlr_pattern.specs.Several.{patterns_in}
use Rattle.regex.specs.Bytes.{matcher_pattern}
use Rattle.regex.specs.Patterns.{Re}
use Rattle.verbs_base.specs.Records.{Fields}
use Rattle.verbs_pattern.specs.Matching.{any_matches}
use Rattle.verbs_summary.specs.Shortened.{shortened}
use Rattle.verbs_summary.specs.declared.merge_fields.Merge.{Merge}
use Rattle.verbs_summary.specs.declared.merge_fields.MergeInputs.{MergeInputs}
use Rattle.verbs_summary.specs.declared.merge_fields.MergeInputs.TheVariants.{Patterns}

-- the values of the named fields, in the order of the names
abbrev pub values_named : List (List ℕ) → Fields → List Tree
values_named names fields = filter_map (λ name. value_at name fields) names

-- the fields whose names don't match, and those whose names hold none of the texts
abbrev pub not_matching : List Re → Fields → Fields
not_matching patterns fields = filter (λ pair. not (any_matches patterns pair.0)) fields

abbrev pub not_holding : List (List ℕ) → Fields → Fields
not_holding texts fields = filter (λ pair. not (is_some (shortened texts pair.0))) fields

-- these are the patterns of the inputs, if they have patterns
abbrev pub HasPatternsOf : MergeInputs → List Re → Type 0
HasPatternsOf (Patterns patterns) res = res ≡ patterns_in patterns
HasPatternsOf _ res = Unit {0}

-- the matchers and the statistics are those of the options
abbrev pub IsReady : Merge → Type 0
IsReady merge = HasPatternsOf merge.options.now.inputs (map matcher_pattern merge.matchers.items) × (merge.statistics ≡ merge.options.now.accumulators)
