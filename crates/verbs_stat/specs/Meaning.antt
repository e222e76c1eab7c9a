-- What each verb means.
use Rattle.verbs_base.specs.Records.{RecordVerb, each, maps}
use Rattle.verbs_step.specs.Step.{step}
use Rattle.verbs_summary.specs.MergeFields.{merge_fields}
use Rattle.verbs_summary.specs.Stats1.{stats1}
use Rattle.verbs_top.specs.Top.{top}
use Rattle.verbs_stat.specs.declared.spec.Spec.{Spec}
use Rattle.verbs_stat.specs.declared.spec.Spec.TheVariants as verb

-- the verb as a function of records
abbrev pub meaning_of : Spec → RecordVerb
meaning_of (verb.MergeFields options) = each (maps (merge_fields options))
meaning_of (verb.Stats1 options) = stats1 options
meaning_of (verb.Step options) = step options
meaning_of (verb.Top options) = top options
