-- What each verb means.
use Rattle.std.specs.Prelude.{List, Option, Some, None}
use Rattle.mlr_event.specs.declared.event.Event.{Event}
use Rattle.mlr_event.specs.declared.names.InputName.{InputName}
use Rattle.mlr_event.specs.declared.options.ReadOpts.{ReadOpts}
use Rattle.verbs_base.specs.Records.{RecordVerb}
use Rattle.verbs_join.specs.Join.{join, lefts_in}
use Rattle.verbs_nest.specs.Nest.{nest}
use Rattle.verbs_reshape.specs.Reshape.{reshape}
use Rattle.verbs_join_nest.specs.declared.spec.Spec.{Spec}
use Rattle.verbs_join_nest.specs.declared.spec.Spec.TheVariants as verb

-- the verb as a function of records, with what its left file holds
abbrev pub meaning_of : Spec → List Event → RecordVerb
meaning_of (verb.Join options) left = join options (lefts_in left)
meaning_of (verb.Nest options) left = nest options
meaning_of (verb.Reshape options) left = reshape options

-- the left file of a verb, if it has one, and how it is read
abbrev pub left_of : Spec → Option (InputName × ReadOpts)
left_of (verb.Join options) = Some (options.file, options.read)
left_of (verb.Nest options) = None
left_of (verb.Reshape options) = None
