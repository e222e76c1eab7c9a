-- What a running verb means, and the records that it was given.
use Rattle.std.specs.Prelude.{List}
use Rattle.verbs_base.specs.Laws.{stream-shuts}
use Rattle.verbs_base.specs.Records.{Row, StaysShut, records}
use Rattle.verbs_fields.specs.Label.{IsSoundLabel}
use Rattle.verbs_state.specs.Cat.{CatRepresents}
use Rattle.verbs_state.specs.Decimate.{DecimateRepresents}
use Rattle.verbs_state.specs.FillDown.{FillDownRepresents}
use Rattle.verbs_state.specs.Gap.{GapRepresents}
use Rattle.verbs_state.specs.Head.{HeadRepresents}
use Rattle.verbs_state.specs.Regularize.{RegularizeRepresents}
use Rattle.verbs_state.specs.Ungrouped.{head-shuts}
use Rattle.verbs_values.specs.Unflatten.{IsSoundUnflatten}
use Rattle.verbs_stream.specs.declared.running.Running.{Running}
use Rattle.verbs_stream.specs.declared.running.Running.TheVariants as r
use Rattle.verbs_stream.specs.declared.spec.Spec.{Spec}
use Rattle.verbs_stream.specs.declared.spec.Spec.TheVariants as verb
use Rattle.verbs_stream.specs.Meaning.{meaning_of}

-- the options of a running verb
abbrev pub options_of : Running → Spec
options_of (r.Altkv v) = verb.Altkv
options_of (r.Cat v) = verb.Cat v.options
options_of (r.Cut v) = verb.Cut v.options
options_of (r.Decimate v) = verb.Decimate v.options
options_of (r.FillDown v) = verb.FillDown v.options
options_of (r.FillEmpty v) = verb.FillEmpty v.verb
options_of (r.Flatten v) = verb.Flatten v.verb
options_of (r.Gap v) = verb.Gap v.options
options_of (r.Grep v) = verb.Grep v.options
options_of (r.Gsub v) = verb.Gsub v.options
options_of (r.HavingFields v) = verb.HavingFields v.options
options_of (r.Head v) = verb.Head v.options
options_of (r.JsonParse v) = verb.JsonParse v.verb
options_of (r.JsonStringify v) = verb.JsonStringify v.verb
options_of (r.Label v) = verb.Label v.verb
options_of (r.Nothing v) = verb.Nothing
options_of (r.Regularize v) = verb.Regularize
options_of (r.Rename v) = verb.Rename v.options
options_of (r.Reorder v) = verb.Reorder v.verb
options_of (r.Repeat v) = verb.Repeat v.options
options_of (r.Sec2Gmt v) = verb.Sec2Gmt v.verb
options_of (r.Sec2GmtDate v) = verb.Sec2GmtDate v.verb
options_of (r.SortWithinRecords v) = verb.SortWithinRecords v.verb
options_of (r.Sparsify v) = verb.Sparsify v.verb
options_of (r.Ssub v) = verb.Ssub v.verb
options_of (r.Sub v) = verb.Sub v.options
options_of (r.Template v) = verb.Template v.verb
options_of (r.Unflatten v) = verb.Unflatten v.verb
options_of (r.Unspace v) = verb.Unspace v.verb

-- the verb was given these records
abbrev pub Represents : Running → List Row → Type 0
Represents (r.Cat v) = λ given. CatRepresents v (records given)
Represents (r.Decimate v) = λ given. DecimateRepresents v (records given)
Represents (r.FillDown v) = λ given. FillDownRepresents v (records given)
Represents (r.Gap v) = λ given. GapRepresents v (records given)
Represents (r.Head v) = λ given. HeadRepresents v (records given)
Represents (r.Label v) = λ given. IsSoundLabel v.verb
Represents (r.Regularize v) = λ given. RegularizeRepresents v (records given)
Represents (r.Unflatten v) = λ given. IsSoundUnflatten v.verb
Represents _ = λ given. Unit {0}

-- a closed verb gives nothing more
pub stays-shut : (spec : Spec) → StaysShut (meaning_of spec)
stays-shut verb.Altkv = stream-shuts (meaning_of verb.Altkv).gives
stays-shut (verb.Cat options) = stream-shuts (meaning_of (verb.Cat options)).gives
stays-shut (verb.Cut options) = stream-shuts (meaning_of (verb.Cut options)).gives
stays-shut (verb.Decimate options) = stream-shuts (meaning_of (verb.Decimate options)).gives
stays-shut (verb.FillDown options) = stream-shuts (meaning_of (verb.FillDown options)).gives
stays-shut (verb.FillEmpty options) = stream-shuts (meaning_of (verb.FillEmpty options)).gives
stays-shut (verb.Flatten options) = stream-shuts (meaning_of (verb.Flatten options)).gives
stays-shut (verb.Gap options) = stream-shuts (meaning_of (verb.Gap options)).gives
stays-shut (verb.Grep options) = stream-shuts (meaning_of (verb.Grep options)).gives
stays-shut (verb.Gsub options) = stream-shuts (meaning_of (verb.Gsub options)).gives
stays-shut (verb.HavingFields options) = stream-shuts (meaning_of (verb.HavingFields options)).gives
stays-shut (verb.Head options) = head-shuts options
stays-shut (verb.JsonParse options) = stream-shuts (meaning_of (verb.JsonParse options)).gives
stays-shut (verb.JsonStringify options) = stream-shuts (meaning_of (verb.JsonStringify options)).gives
stays-shut (verb.Label options) = stream-shuts (meaning_of (verb.Label options)).gives
stays-shut verb.Nothing = stream-shuts (meaning_of verb.Nothing).gives
stays-shut verb.Regularize = stream-shuts (meaning_of verb.Regularize).gives
stays-shut (verb.Rename options) = stream-shuts (meaning_of (verb.Rename options)).gives
stays-shut (verb.Reorder options) = stream-shuts (meaning_of (verb.Reorder options)).gives
stays-shut (verb.Repeat options) = stream-shuts (meaning_of (verb.Repeat options)).gives
stays-shut (verb.Sec2Gmt options) = stream-shuts (meaning_of (verb.Sec2Gmt options)).gives
stays-shut (verb.Sec2GmtDate options) = stream-shuts (meaning_of (verb.Sec2GmtDate options)).gives
stays-shut (verb.SortWithinRecords options) = stream-shuts (meaning_of (verb.SortWithinRecords options)).gives
stays-shut (verb.Sparsify options) = stream-shuts (meaning_of (verb.Sparsify options)).gives
stays-shut (verb.Ssub options) = stream-shuts (meaning_of (verb.Ssub options)).gives
stays-shut (verb.Sub options) = stream-shuts (meaning_of (verb.Sub options)).gives
stays-shut (verb.Template options) = stream-shuts (meaning_of (verb.Template options)).gives
stays-shut (verb.Unflatten options) = stream-shuts (meaning_of (verb.Unflatten options)).gives
stays-shut (verb.Unspace options) = stream-shuts (meaning_of (verb.Unspace options)).gives
