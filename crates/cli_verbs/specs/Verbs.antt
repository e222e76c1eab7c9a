-- The verb that words give.
use Rattle.std.specs.Prelude.{◌≡◌, ℕ, Bool, false, ◌==◌, if◌then◌else◌, List, [], ◌∷◌, length, codes}
use Rattle.verb_specs.specs.declared.verb_spec.VerbSpec.{VerbSpec}
use Rattle.verb_specs.specs.declared.verb_spec.VerbSpec.TheVariants.{Stream, Retain, Seq, Shape, Stat}
use Rattle.cli_grammar.specs.Options.{has}
use Rattle.cli_grammar.specs.declared.given.VerbWords.{VerbWords}
use Rattle.cli_grammar.specs.declared.verb_table.VerbName.{VerbName}
use Rattle.cli_grammar.specs.declared.verb_table.VerbName.TheVariants as verb
use Rattle.mlr_event.specs.declared.options.ReadOpts.{ReadOpts}
use Rattle.mlr_event.specs.declared.refusal.Refusal.{Refusal}
use Rattle.verbs_pattern.specs.declared.cut.Cut.{Cut}
use Rattle.verbs_pattern.specs.declared.grep.Grep.{Grep}
use Rattle.verbs_pattern.specs.declared.gsub.Gsub.{Gsub}
use Rattle.verbs_pattern.specs.declared.having_fields.HavingFields.{HavingFields}
use Rattle.verbs_pattern.specs.declared.rename.Rename.{Rename}
use Rattle.verbs_pattern.specs.declared.sub.Sub.{Sub}
use Rattle.verbs_seq.specs.Seq.{IsSoundSeq}
use Rattle.verbs_join_nest.specs.declared.spec.Spec.TheVariants as shape
use Rattle.verbs_reshape.specs.declared.reshape.Reshape.{Reshape}
use Rattle.verbs_retain.specs.declared.spec.Spec.TheVariants as retain
use Rattle.verbs_stat.specs.declared.spec.Spec.TheVariants as stat
use Rattle.verbs_stream.specs.declared.spec.Spec.TheVariants as stream
use Rattle.verbs_summary.specs.declared.merge_fields.MergeFields.{MergeFields}
use Rattle.cli_retain.specs.Count.{count_of}
use Rattle.cli_retain.specs.CountDistinct.{count_distinct_of}
use Rattle.cli_retain.specs.CountSimilar.{count_similar_of}
use Rattle.cli_retain.specs.GroupBy.{group_by_of}
use Rattle.cli_retain.specs.Frequent.{frequent_of}
use Rattle.cli_retain.specs.Sort.{sort_of}
use Rattle.cli_retain.specs.Tail.{tail_of}
use Rattle.cli_retain.specs.Uniq.{uniq_of}
use Rattle.cli_retain.specs.Unsparsify.{unsparsify_of}
use Rattle.cli_shape.specs.Join.{join_of}
use Rattle.cli_shape.specs.Nest.{nest_of}
use Rattle.cli_stat.specs.Stats1.{stats1_of}
use Rattle.cli_stat.specs.Step.{step_of}
use Rattle.cli_stat.specs.Top.{top_of}
use Rattle.cli_verbs.specs.PatternWords.{PatternWord, AreGoodPatterns, IsFirstRefused}
use Rattle.cli_verbs.specs.Cat.{cat_of}
use Rattle.cli_verbs.specs.Decimate.{decimate_of}
use Rattle.cli_verbs.specs.FillDown.{fill_down_of}
use Rattle.cli_verbs.specs.FillEmpty.{fill_empty_of}
use Rattle.cli_verbs.specs.Flatten.{flatten_of}
use Rattle.cli_verbs.specs.Gap.{gap_of}
use Rattle.cli_verbs.specs.Head.{head_of}
use Rattle.cli_verbs.specs.JsonParse.{json_parse_of}
use Rattle.cli_verbs.specs.JsonStringify.{json_stringify_of}
use Rattle.cli_verbs.specs.Label.{label_of}
use Rattle.cli_verbs.specs.Reorder.{reorder_of}
use Rattle.cli_verbs.specs.Repeat.{repeat_of}
use Rattle.cli_verbs.specs.Sec2Gmt.{sec2gmt_of}
use Rattle.cli_verbs.specs.Sec2GmtDate.{sec2gmtdate_of}
use Rattle.cli_verbs.specs.SortWithinRecords.{sort_within_records_of}
use Rattle.cli_verbs.specs.Sparsify.{sparsify_of}
use Rattle.cli_verbs.specs.Ssub.{ssub_of}
use Rattle.cli_verbs.specs.Template.{template_of}
use Rattle.cli_verbs.specs.Unflatten.{unflatten_of}
use Rattle.cli_verbs.specs.Unspace.{unspace_of}
use Rattle.cli_verbs.specs.Cut.{cut_patterns, IsCutOf}
use Rattle.cli_verbs.specs.Grep.{grep_patterns, IsGrepOf}
use Rattle.cli_verbs.specs.Gsub.{IsGsubOf}
use Rattle.cli_verbs.specs.HavingFields.{having_patterns, IsHavingFieldsOf}
use Rattle.cli_verbs.specs.MergeFields.{IsMergeFieldsOf}
use Rattle.cli_verbs.specs.PatternOption.{option_patterns}
use Rattle.cli_verbs.specs.Rename.{rename_patterns, IsRenameOf}
use Rattle.cli_verbs.specs.Reshape.{IsReshapeOf}
use Rattle.cli_verbs.specs.Sub.{IsSubOf}
use Rattle.cli_verbs.specs.Seqgen.{seqgen_of, IsRefusedSeq}
use Rattle.cli_verbs.specs.OwnPattern.{own_pattern, own_patterns}

-- the spec is `cut` with these options
abbrev pub IsStreamCut : VerbWords → VerbSpec → Type 0
IsStreamCut given spec = (options : Cut) × (spec ≡ Stream (stream.Cut options)) × IsCutOf given options

-- the spec is `grep` with these options
abbrev pub IsStreamGrep : VerbWords → VerbSpec → Type 0
IsStreamGrep given spec = (options : Grep) × (spec ≡ Stream (stream.Grep options)) × IsGrepOf given options

-- the spec is `gsub` with these options
abbrev pub IsStreamGsub : VerbWords → VerbSpec → Type 0
IsStreamGsub given spec = (options : Gsub) × (spec ≡ Stream (stream.Gsub options)) × IsGsubOf given options

-- the spec is `having-fields` with these options
abbrev pub IsStreamHavingFields : VerbWords → VerbSpec → Type 0
IsStreamHavingFields given spec = (options : HavingFields) × (spec ≡ Stream (stream.HavingFields options)) × IsHavingFieldsOf given options

-- the spec is `merge-fields` with these options
abbrev pub IsStatMergeFields : VerbWords → VerbSpec → Type 0
IsStatMergeFields given spec = (options : MergeFields) × (spec ≡ Stat (stat.MergeFields options)) × IsMergeFieldsOf given options

-- the spec is `rename` with these options
abbrev pub IsStreamRename : VerbWords → VerbSpec → Type 0
IsStreamRename given spec = (options : Rename) × (spec ≡ Stream (stream.Rename options)) × IsRenameOf given options

-- the spec is `reshape` with these options
abbrev pub IsShapeReshape : VerbWords → VerbSpec → Type 0
IsShapeReshape given spec = (options : Reshape) × (spec ≡ Shape (shape.Reshape options)) × IsReshapeOf given options

-- the spec is `sub` with these options
abbrev pub IsStreamSub : VerbWords → VerbSpec → Type 0
IsStreamSub given spec = (options : Sub) × (spec ≡ Stream (stream.Sub options)) × IsSubOf given options

-- the verb with this name is that which the words give
abbrev pub IsVerbNamed : VerbName → List ℕ → ReadOpts → VerbWords → VerbSpec → Type 0
IsVerbNamed verb.Altkv flatsep read given spec = spec ≡ Stream stream.Altkv
IsVerbNamed verb.Cat flatsep read given spec = spec ≡ Stream (stream.Cat (cat_of given))
IsVerbNamed verb.Count flatsep read given spec = spec ≡ Retain (retain.Count (count_of given))
IsVerbNamed verb.CountDistinct flatsep read given spec = spec ≡ Retain (retain.CountDistinct (count_distinct_of given))
IsVerbNamed verb.CountSimilar flatsep read given spec = spec ≡ Retain (retain.CountSimilar (count_similar_of given))
IsVerbNamed verb.Cut flatsep read given spec = IsStreamCut given spec
IsVerbNamed verb.Decimate flatsep read given spec = spec ≡ Stream (stream.Decimate (decimate_of given))
IsVerbNamed verb.FillDown flatsep read given spec = spec ≡ Stream (stream.FillDown (fill_down_of given))
IsVerbNamed verb.FillEmpty flatsep read given spec = spec ≡ Stream (stream.FillEmpty (fill_empty_of given))
IsVerbNamed verb.Flatten flatsep read given spec = spec ≡ Stream (stream.Flatten (flatten_of flatsep given))
IsVerbNamed verb.Gap flatsep read given spec = spec ≡ Stream (stream.Gap (gap_of given))
IsVerbNamed verb.Grep flatsep read given spec = IsStreamGrep given spec
IsVerbNamed verb.GroupBy flatsep read given spec = spec ≡ Retain (retain.GroupBy (group_by_of given))
IsVerbNamed verb.GroupLike flatsep read given spec = spec ≡ Retain retain.GroupLike
IsVerbNamed verb.Gsub flatsep read given spec = IsStreamGsub given spec
IsVerbNamed verb.HavingFields flatsep read given spec = IsStreamHavingFields given spec
IsVerbNamed verb.Head flatsep read given spec = spec ≡ Stream (stream.Head (head_of given))
IsVerbNamed verb.Join flatsep read given spec = spec ≡ Shape (shape.Join (join_of read given))
IsVerbNamed verb.JsonParse flatsep read given spec = spec ≡ Stream (stream.JsonParse (json_parse_of given))
IsVerbNamed verb.JsonStringify flatsep read given spec = spec ≡ Stream (stream.JsonStringify (json_stringify_of given))
IsVerbNamed verb.Label flatsep read given spec = spec ≡ Stream (stream.Label (label_of given))
IsVerbNamed verb.LeastFrequent flatsep read given spec = spec ≡ Retain (retain.LeastFrequent (frequent_of given))
IsVerbNamed verb.MergeFields flatsep read given spec = IsStatMergeFields given spec
IsVerbNamed verb.MostFrequent flatsep read given spec = spec ≡ Retain (retain.MostFrequent (frequent_of given))
IsVerbNamed verb.Nest flatsep read given spec = spec ≡ Shape (shape.Nest (nest_of given))
IsVerbNamed verb.Nothing flatsep read given spec = spec ≡ Stream stream.Nothing
IsVerbNamed verb.Regularize flatsep read given spec = spec ≡ Stream stream.Regularize
IsVerbNamed verb.Rename flatsep read given spec = IsStreamRename given spec
IsVerbNamed verb.Reorder flatsep read given spec = spec ≡ Stream (stream.Reorder (reorder_of given))
IsVerbNamed verb.Repeat flatsep read given spec = spec ≡ Stream (stream.Repeat (repeat_of given))
IsVerbNamed verb.Reshape flatsep read given spec = IsShapeReshape given spec
IsVerbNamed verb.Sec2Gmt flatsep read given spec = spec ≡ Stream (stream.Sec2Gmt (sec2gmt_of given))
IsVerbNamed verb.Sec2GmtDate flatsep read given spec = spec ≡ Stream (stream.Sec2GmtDate (sec2gmtdate_of given))
IsVerbNamed verb.Seqgen flatsep read given spec = spec ≡ Seq (seqgen_of given)
IsVerbNamed verb.Sort flatsep read given spec = spec ≡ Retain (retain.Sort (sort_of given))
IsVerbNamed verb.SortWithinRecords flatsep read given spec = spec ≡ Stream (stream.SortWithinRecords (sort_within_records_of given))
IsVerbNamed verb.Sparsify flatsep read given spec = spec ≡ Stream (stream.Sparsify (sparsify_of given))
IsVerbNamed verb.Ssub flatsep read given spec = spec ≡ Stream (stream.Ssub (ssub_of given))
IsVerbNamed verb.Stats1 flatsep read given spec = spec ≡ Stat (stat.Stats1 (stats1_of given))
IsVerbNamed verb.Step flatsep read given spec = spec ≡ Stat (stat.Step (step_of given))
IsVerbNamed verb.Sub flatsep read given spec = IsStreamSub given spec
IsVerbNamed verb.Tac flatsep read given spec = spec ≡ Retain retain.Tac
IsVerbNamed verb.Tail flatsep read given spec = spec ≡ Retain (retain.Tail (tail_of given))
IsVerbNamed verb.Template flatsep read given spec = spec ≡ Stream (stream.Template (template_of given))
IsVerbNamed verb.Top flatsep read given spec = spec ≡ Stat (stat.Top (top_of given))
IsVerbNamed verb.Unflatten flatsep read given spec = spec ≡ Stream (stream.Unflatten (unflatten_of flatsep given))
IsVerbNamed verb.Uniq flatsep read given spec = spec ≡ Retain (retain.Uniq (uniq_of given))
IsVerbNamed verb.Unspace flatsep read given spec = spec ≡ Stream (stream.Unspace (unspace_of given))
IsVerbNamed verb.Unsparsify flatsep read given spec = spec ≡ Retain (retain.Unsparsify (unsparsify_of given))

-- the verb is that which the words give, where names are flattened with this separator and the main inputs are read so
abbrev pub IsVerbOf : List ℕ → ReadOpts → VerbWords → VerbSpec → Type 0
IsVerbOf flatsep read given spec = IsVerbNamed given.verb flatsep read given spec

-- the patterns in the words of the verb with this name
abbrev pub verb_patterns : VerbName → VerbWords → List PatternWord
verb_patterns verb.Cut given = cut_patterns given
verb_patterns verb.Grep given = grep_patterns given
verb_patterns verb.Gsub given = own_patterns given
verb_patterns verb.HavingFields given = having_patterns given
verb_patterns verb.MergeFields given = option_patterns given
verb_patterns verb.Rename given = rename_patterns given
verb_patterns verb.Reshape given = option_patterns given
verb_patterns verb.Sub given = own_patterns given
verb_patterns _ given = []

-- regex reads the patterns, and a source counts with the numbers
abbrev pub IsGoodNamed : VerbName → VerbWords → Type 0
IsGoodNamed verb.Seqgen given = IsSoundSeq (seqgen_of given)
IsGoodNamed name given = AreGoodPatterns (verb_patterns name given)

abbrev pub IsGoodVerb : VerbWords → Type 0
IsGoodVerb given = IsGoodNamed given.verb given

-- the first pattern that regex refuses, or the numbers that no source counts with
abbrev pub IsRefusedNamed : VerbName → VerbWords → Refusal → Type 0
IsRefusedNamed verb.Seqgen given refusal = IsRefusedSeq given refusal
IsRefusedNamed name given refusal = IsFirstRefused (verb_patterns name given) refusal

abbrev pub IsRefusedVerb : VerbWords → Refusal → Type 0
IsRefusedVerb given refusal = IsRefusedNamed given.verb given refusal

-- the pattern in the first word of a verb's own, if the word is there
abbrev pub own_so_far : Bool → VerbWords → List PatternWord
own_so_far either_case given = if length given.words == 0 then [] else own_pattern either_case given ∷ []

-- the patterns so far in the words of the verb with this name; names may still be followed by options that make them patterns
abbrev pub patterns_so_far : VerbName → VerbWords → List PatternWord
patterns_so_far verb.Grep given = own_so_far (has (codes "-i") given.options) given
patterns_so_far verb.Gsub given = own_so_far false given
patterns_so_far verb.Sub given = own_so_far false given
patterns_so_far verb.HavingFields given = having_patterns given
patterns_so_far verb.MergeFields given = option_patterns given
patterns_so_far verb.Reshape given = option_patterns given
patterns_so_far _ given = []
