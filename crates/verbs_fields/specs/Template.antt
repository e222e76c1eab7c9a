-- The verb `template`.
use Rattle.std.specs.Prelude.{ℕ, if◌then◌else◌, List, [], ◌∷◌, ◌++◌, map}
use Rattle.std.specs.Option.{unwrap_or}
use Rattle.mlr_spec.specs.JsonGrammar.{text_value}
use Rattle.mlr_spec.specs.Pairs.{value_at, keys_of}
use Rattle.mlr_spec.specs.Tree.{Tree}
use Rattle.mlr_event.specs.Reading.{is_among}
use Rattle.verbs_base.specs.Choosing.{once}
use Rattle.verbs_base.specs.Records.{Fields}
use Rattle.verbs_fields.specs.declared.template.Template.{Template}

-- the field of a name; a missing field has the text as its value, and its type isn't inferred
abbrev pub field_or : List ℕ → Fields → List ℕ → List ℕ × Tree
field_or fill fields name = (name, unwrap_or (value_at name fields) (text_value fill))

-- a field for each name, in the order of the names
abbrev pub template : Template → Fields → Fields
template verb fields = map (field_or verb.fill fields) (once verb.names)

-- the fields with one more appended, unless its name is there
abbrev pub put_once : List ℕ × Tree → Fields → Fields
put_once field fields = if is_among (keys_of fields) field.0 then fields else fields ++ field ∷ []
