-- `gsub`: a record with its values changed.
use Rattle.std.specs.Arc.{arc_value}
use Rattle.mlr_pattern.specs.Values.{sub_of}
use Rattle.mlr_pattern.specs.declared.which.Which.TheVariants.{All}
use Rattle.regex.specs.Bytes.{regex_pattern}
use Rattle.verbs_base.specs.Records.{Fields}
use Rattle.verbs_pattern.specs.SubFields.{changed_fields}
use Rattle.verbs_pattern.specs.declared.gsub.Gsub.{Gsub}

-- `gsub`: all matches of the pattern replaced in the values of the fields
abbrev pub gsub : Gsub → Fields → Fields
gsub options fields = changed_fields options.fields (sub_of All (regex_pattern (arc_value options.pattern)) options.by) fields
