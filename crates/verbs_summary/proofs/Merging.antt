-- The parts of `merge-fields`.
use Rattle.std.proofs.Common.{◌≡◌, ℕ, Bool, true, false, not, if◌then◌else◌, List, [], ◌∷◌, ◌++◌, map, ap, sym, ◌∙◌, append_assoc}
use Rattle.std.specs.List.{filter}
use Rattle.std.proofs.lemmas.List.{map-append}
use Rattle.std.proofs.lemmas.List.Elements.{filter-append, filter_map-append}
use Rattle.mlr_pattern.specs.Several.{patterns_in}
use Rattle.mlr_spec.specs.Pairs.{are_distinct, keys_of, put_each, value_at}
use Rattle.mlr_spec.specs.Tree.{Tree}
use Rattle.regex.specs.Patterns.{Re}
use Rattle.stat_base.specs.declared.accumulator.Accumulator.{Accumulator}
use Rattle.mlr_stats.specs.Statistic.{fields_of}
use Rattle.verbs_base.proofs.Filters.{are_distinct-filter}
use Rattle.verbs_base.specs.Choosing.{dropped}
use Rattle.verbs_base.specs.Records.{Fields}
use Rattle.verbs_pattern.specs.Matching.{any_matches}
use Rattle.verbs_summary.specs.MergeFields.{AreSameInputs, is_input, merge_fields, merged, values_matching}
use Rattle.verbs_summary.specs.Merging.{not_holding, not_matching, values_named}
use Rattle.verbs_summary.specs.Shortened.{gathered}
use Rattle.mlr_pattern.specs.declared.patterns.Patterns.{Patterns as PatternList}
use Rattle.verbs_summary.specs.declared.merge_fields.MergeFields.{MergeFields}
use Rattle.verbs_summary.specs.declared.merge_fields.MergeInputs.{MergeInputs}
use Rattle.verbs_summary.specs.declared.merge_fields.MergeInputs.TheVariants.{Names, Patterns, Texts}

-- options with the same inputs mean the same
pub same-merge : (options : MergeFields) (one other : MergeInputs) → AreSameInputs one other
    → merge_fields (record options { inputs = one }) ≡ merge_fields (record options { inputs = other })
same-merge options (Patterns one) (Patterns other) is = λ i fields.
    put_each (if options.keep then fields else filter (λ pair. not (any_matches (is i) pair.0)) fields)
    (fields_of options.accumulators options.output (values_matching (is i) fields))
same-merge options (Patterns one) (Names other) is = ap (λ inputs. merge_fields (record options { inputs = inputs })) is
same-merge options (Patterns one) (Texts other) is = ap (λ inputs. merge_fields (record options { inputs = inputs })) is
same-merge options (Names one) other is = ap (λ inputs. merge_fields (record options { inputs = inputs })) is
same-merge options (Texts one) other is = ap (λ inputs. merge_fields (record options { inputs = inputs })) is

-- the values of one more name
pub named-more : (values : List Tree) (names : List (List ℕ)) (name : List ℕ) (fields : Fields) → (values ++ values_named names fields) ++ values_named (name ∷ []) fields ≡ values ++ values_named (names ++ name ∷ []) fields
named-more values names name fields =
    append_assoc values (values_named names fields) (values_named (name ∷ []) fields)
    ∙ ap (λ more. values ++ more) (sym (filter_map-append (λ name. value_at name fields) names (name ∷ [])))

-- the values of a field whose name matches, and of those after it
pub matching-more : (patterns : List Re) (first rest : Fields) → values_matching patterns (first ++ rest) ≡ values_matching patterns first ++ values_matching patterns rest
matching-more patterns first rest =
    ap (map (λ pair. pair.1)) (filter-append (λ (pair : List ℕ × Tree). any_matches patterns pair.0) first rest)
    ∙ map-append (λ (pair : List ℕ × Tree). pair.1) (filter (λ pair. any_matches patterns pair.0) first) (filter (λ pair. any_matches patterns pair.0) rest)

-- the fields that stay of some first ones and of the rest
pub kept-more : (keep : Bool) (patterns : List Re) (kept first rest : Fields)
    → (kept ++ (if keep then first else not_matching patterns first)) ++ (if keep then rest else not_matching patterns rest)
    ≡ kept ++ (if keep then first ++ rest else not_matching patterns (first ++ rest))
kept-more true patterns kept first rest = append_assoc kept first rest
kept-more false patterns kept first rest =
    append_assoc kept (not_matching patterns first) (not_matching patterns rest)
    ∙ ap (λ more. kept ++ more) (sym (filter-append (λ (pair : List ℕ × Tree). not (any_matches patterns pair.0)) first rest))

pub kept-distinct : (keep : Bool) (patterns : List Re) (fields : Fields) → are_distinct (keys_of fields) ≡ true → are_distinct (keys_of (if keep then fields else not_matching patterns fields)) ≡ true
kept-distinct true patterns fields distinct = distinct
kept-distinct false patterns fields distinct = are_distinct-filter (λ pair. not (any_matches patterns pair.0)) fields distinct

-- what is made of a record, by the inputs
abbrev made_of : MergeFields → Fields → MergeInputs → Fields
made_of options fields inputs = put_each (if options.keep then fields else filter (λ pair. not (is_input inputs pair.0)) fields) (merged options inputs fields)

pub named-made : (options : MergeFields) (accumulators : List Accumulator) (names : List (List ℕ)) (fields : Fields) → accumulators ≡ options.accumulators → options.inputs ≡ Names names
    → put_each (if options.keep then fields else dropped names fields) (fields_of accumulators options.output (values_named names fields)) ≡ merge_fields options fields
named-made options accumulators names fields same is =
    ap (λ accumulators. put_each (if options.keep then fields else dropped names fields) (fields_of accumulators options.output (values_named names fields))) same
    ∙ ap (made_of options fields) (sym is)

pub matching-made : (options : MergeFields) (accumulators : List Accumulator) (own : PatternList) (patterns : List Re) (fields : Fields) → accumulators ≡ options.accumulators → options.inputs ≡ Patterns own → patterns ≡ patterns_in own
    → put_each (if options.keep then fields else not_matching patterns fields) (fields_of accumulators options.output (values_matching patterns fields)) ≡ merge_fields options fields
matching-made options accumulators own patterns fields same is are =
    (λ i. put_each (if options.keep then fields else not_matching (are i) fields) (fields_of (same i) options.output (values_matching (are i) fields)))
    ∙ ap (made_of options fields) (sym is)

pub holding-made : (options : MergeFields) (accumulators : List Accumulator) (texts : List (List ℕ)) (fields : Fields) → accumulators ≡ options.accumulators → options.inputs ≡ Texts texts
    → put_each (if options.keep then fields else not_holding texts fields) (gathered accumulators texts fields) ≡ merge_fields options fields
holding-made options accumulators texts fields same is =
    ap (λ accumulators. put_each (if options.keep then fields else not_holding texts fields) (gathered accumulators texts fields)) same
    ∙ ap (made_of options fields) (sym is)
