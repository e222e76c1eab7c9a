-- `merge-fields`: statistics of the values of several fields of each record.
use Rattle.std.specs.Prelude.{◌≡◌, ℕ, Bool, not, if◌then◌else◌, List, map, is_some}
use Rattle.std.specs.List.{filter, filter_map}
use Rattle.mlr_spec.specs.Pairs.{put_each, value_at}
use Rattle.mlr_spec.specs.Tree.{Tree}
use Rattle.mlr_event.specs.Reading.{is_among}
use Rattle.mlr_pattern.specs.Several.{patterns_in}
use Rattle.regex.specs.Patterns.{Re}
use Rattle.verbs_base.specs.Records.{Fields}
use Rattle.verbs_pattern.specs.Matching.{any_matches}
use Rattle.mlr_stats.specs.Statistic.{fields_of}
use Rattle.verbs_summary.specs.Shortened.{gathered, shortened}
use Rattle.verbs_summary.specs.declared.merge_fields.MergeFields.{MergeFields}
use Rattle.verbs_summary.specs.declared.merge_fields.MergeInputs.{MergeInputs}
use Rattle.verbs_summary.specs.declared.merge_fields.MergeInputs.TheVariants.{Names, Patterns, Texts}

-- whether a field is taken, by its name
abbrev pub is_input : MergeInputs → List ℕ → Bool
is_input (Names names) name = is_among names name
is_input (Patterns patterns) name = any_matches (patterns_in patterns) name
is_input (Texts texts) name = is_some (shortened texts name)

-- the values of the fields whose names match
abbrev pub values_matching : List Re → Fields → List Tree
values_matching patterns fields = map (λ pair. pair.1) (filter (λ pair. any_matches patterns pair.0) fields)

-- the fields that are made of a record's
abbrev pub merged : MergeFields → MergeInputs → Fields → Fields
merged options (Names names) fields = fields_of options.accumulators options.output (filter_map (λ name. value_at name fields) names)
merged options (Patterns patterns) fields = fields_of options.accumulators options.output (values_matching (patterns_in patterns) fields)
merged options (Texts texts) fields = gathered options.accumulators texts fields

-- the fields that stay
abbrev pub remaining : MergeFields → Fields → Fields
remaining options fields = if options.keep then fields else filter (λ pair. not (is_input options.inputs pair.0)) fields

-- `merge-fields`: what is made is put after the inputs were taken out
abbrev pub merge_fields : MergeFields → Fields → Fields
merge_fields options fields = put_each (remaining options fields) (merged options options.inputs fields)

-- the same names or texts, or equal patterns
abbrev pub AreSameInputs : MergeInputs → MergeInputs → Type 0
AreSameInputs (Patterns one) (Patterns other) = patterns_in one ≡ patterns_in other
AreSameInputs one other = one ≡ other
