-- `sub`: a record with its values changed.
use Rattle.std.specs.Arc.{arc_value}
use Rattle.mlr_pattern.specs.Values.{sub_of}
use Rattle.mlr_pattern.specs.declared.which.Which.TheVariants.{First}
use Rattle.regex.specs.Bytes.{regex_pattern}
use Rattle.verbs_base.specs.Records.{Fields}
use Rattle.verbs_pattern.specs.SubFields.{changed_fields}
use Rattle.verbs_pattern.specs.declared.sub.Sub.{Sub}

-- `sub`: the first match of the pattern replaced in the values of the fields
abbrev pub sub : Sub → Fields → Fields
sub options fields = changed_fields options.fields (sub_of First (regex_pattern (arc_value options.pattern)) options.by) fields
