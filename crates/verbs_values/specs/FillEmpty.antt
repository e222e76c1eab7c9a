-- The verb `fill-empty`.
use Rattle.std.specs.Prelude.{true, if◌then◌else◌}
use Rattle.mlr_spec.specs.Infer.{tree_of_data}
use Rattle.mlr_spec.specs.JsonGrammar.{text_value}
use Rattle.mlr_spec.specs.Tree.{Tree, empty}
use Rattle.mlr_json.specs.Readable.{plain}
use Rattle.verbs_base.specs.Changing.{changed}
use Rattle.verbs_base.specs.Records.{Fields}
use Rattle.verbs_values.specs.declared.fill_empty.FillEmpty.{FillEmpty}

-- an empty value is set to the text: to a string, or to the value that is inferred from the text
abbrev pub filled : FillEmpty → Tree → Tree
filled verb empty = if verb.as_string then text_value verb.text else tree_of_data plain verb.text
filled verb value = value

abbrev pub fill_empty : FillEmpty → Fields → Fields
fill_empty verb fields = changed (λ name. true) (filled verb) fields
