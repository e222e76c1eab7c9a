-- `ssub`: a record with its values changed.
use Rattle.mlr_pattern.specs.Values.{ssub_of}
use Rattle.verbs_base.specs.Records.{Fields}
use Rattle.verbs_pattern.specs.SubFields.{changed_fields}
use Rattle.verbs_pattern.specs.declared.ssub.Ssub.{Ssub}

-- `ssub`: the first occurrence of the text replaced in the values of the fields
abbrev pub ssub : Ssub → Fields → Fields
ssub options fields = changed_fields options.fields (ssub_of options.old options.by) fields
