-- What each verb means, which options words may give it, and which options are short.
use Rattle.std.specs.Prelude.{◌≡◌, ◌≤◌, length, None}
use Rattle.verbs_base.specs.Records.{RecordVerb, each, maps, passes}
use Rattle.verbs_fields.specs.Altkv.{altkv}
use Rattle.verbs_fields.specs.Label.{IsSoundLabel, label}
use Rattle.verbs_fields.specs.Reorder.{reorder}
use Rattle.verbs_fields.specs.SortWithinRecords.{sort_within_records}
use Rattle.verbs_fields.specs.Sparsify.{sparsify}
use Rattle.verbs_fields.specs.Template.{template}
use Rattle.verbs_fields.specs.Unspace.{unspace}
use Rattle.verbs_pattern.specs.Cut.{cut}
use Rattle.verbs_pattern.specs.Grep.{grep}
use Rattle.verbs_pattern.specs.Gsub.{gsub}
use Rattle.verbs_pattern.specs.HavingFields.{has}
use Rattle.verbs_pattern.specs.Rename.{rename}
use Rattle.verbs_pattern.specs.Ssub.{ssub}
use Rattle.verbs_pattern.specs.Sub.{sub}
use Rattle.verbs_pattern.specs.declared.sub_fields.SubFields.TheVariants as fields
use Rattle.verbs_state.specs.Cat.{cat}
use Rattle.verbs_state.specs.Decimate.{IsSoundDecimate, decimate}
use Rattle.verbs_state.specs.FillDown.{fill_down}
use Rattle.verbs_state.specs.Gap.{IsSoundGap, gap}
use Rattle.verbs_state.specs.Head.{head}
use Rattle.verbs_state.specs.Nothing.{nothing}
use Rattle.verbs_state.specs.Regularize.{regularize}
use Rattle.verbs_state.specs.Repeat.{repeat}
use Rattle.verbs_state.specs.declared.gap.Gap.TheVariants as gaps
use Rattle.verbs_state.specs.declared.repeat.Repeat.TheVariants as times
use Rattle.verbs_values.specs.FillEmpty.{fill_empty}
use Rattle.verbs_values.specs.Flatten.{IsSoundFlatten, flatten}
use Rattle.verbs_values.specs.JsonParse.{json_parse}
use Rattle.verbs_values.specs.JsonStringify.{json_stringify}
use Rattle.verbs_values.specs.Sec2Gmt.{sec2gmt_fields}
use Rattle.verbs_values.specs.Sec2GmtDate.{sec2gmtdate_fields}
use Rattle.verbs_values.specs.Unflatten.{IsSoundUnflatten, unflatten}
use Rattle.verbs_stream.specs.declared.spec.Spec.{Spec}
use Rattle.verbs_stream.specs.declared.spec.Spec.TheVariants as verb

-- the verb as a function of records
abbrev pub meaning_of : Spec → RecordVerb
meaning_of verb.Altkv = each (maps altkv)
meaning_of (verb.Cat options) = cat options
meaning_of (verb.Cut options) = each (maps (cut options))
meaning_of (verb.Decimate options) = decimate options
meaning_of (verb.FillDown options) = fill_down options
meaning_of (verb.FillEmpty options) = each (maps (fill_empty options))
meaning_of (verb.Flatten options) = each (maps (flatten options))
meaning_of (verb.Gap options) = gap options
meaning_of (verb.Grep options) = each (passes (grep options))
meaning_of (verb.Gsub options) = each (maps (gsub options))
meaning_of (verb.HavingFields options) = each (passes (has options))
meaning_of (verb.Head options) = head options
meaning_of (verb.JsonParse options) = each (maps (json_parse options))
meaning_of (verb.JsonStringify options) = each (maps (json_stringify options))
meaning_of (verb.Label options) = each (maps (label options))
meaning_of verb.Nothing = each nothing
meaning_of verb.Regularize = regularize
meaning_of (verb.Rename options) = each (maps (rename options))
meaning_of (verb.Reorder options) = each (maps (reorder options))
meaning_of (verb.Repeat options) = repeat options
meaning_of (verb.Sec2Gmt options) = each (maps (sec2gmt_fields options))
meaning_of (verb.Sec2GmtDate options) = each (maps (sec2gmtdate_fields options))
meaning_of (verb.SortWithinRecords options) = each (maps (sort_within_records options))
meaning_of (verb.Sparsify options) = each (maps (sparsify options))
meaning_of (verb.Ssub options) = each (maps (ssub options))
meaning_of (verb.Sub options) = each (maps (sub options))
meaning_of (verb.Template options) = each (maps (template options))
meaning_of (verb.Unflatten options) = each (maps (unflatten options))
meaning_of (verb.Unspace options) = each (maps (unspace options))

-- the options are in the ranges that the command line allows
abbrev pub IsSound : Spec → Type 0
IsSound (verb.Decimate options) = IsSoundDecimate options
IsSound (verb.Flatten options) = IsSoundFlatten options
IsSound (verb.Gap options) = IsSoundGap options
IsSound (verb.Label options) = IsSoundLabel options
IsSound (verb.Unflatten options) = IsSoundUnflatten options
IsSound _ = Unit {0}

-- options without a list, without a pattern and without a text of more than 20 bytes
abbrev pub IsShort : Spec → Type 0
IsShort verb.Altkv = Unit {0}
IsShort (verb.Cat cat) = (length cat.name ≤ 20) × (cat.groups ≡ None)
IsShort (verb.Decimate decimate) = decimate.groups ≡ None
IsShort (verb.FillEmpty fill) = length fill.text ≤ 20
IsShort (verb.Flatten flatten) = (flatten.names ≡ None) × (length flatten.separator ≤ 20)
IsShort (verb.Gap (gaps.Count n)) = Unit {0}
IsShort (verb.Head head) = head.groups ≡ None
IsShort (verb.JsonParse parse) = parse.names ≡ None
IsShort (verb.JsonStringify stringify) = stringify.names ≡ None
IsShort verb.Nothing = Unit {0}
IsShort verb.Regularize = Unit {0}
IsShort (verb.Repeat (times.Count n)) = Unit {0}
IsShort (verb.Repeat (times.Field name)) = length name ≤ 20
IsShort (verb.SortWithinRecords sort) = Unit {0}
IsShort (verb.Sparsify sparsify) = sparsify.names ≡ None
IsShort (verb.Ssub ssub) = (ssub.fields ≡ fields.All) × (length ssub.old ≤ 20) × (length ssub.by ≤ 20)
IsShort (verb.Unflatten unflatten) = (unflatten.names ≡ None) × (length unflatten.separator ≤ 20)
IsShort (verb.Unspace unspace) = length unspace.text ≤ 20
IsShort _ = ⊥
