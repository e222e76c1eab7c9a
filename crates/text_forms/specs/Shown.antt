-- A value as one text.
use Rattle.std.specs.Prelude.{ℕ, Bool, true, false, if◌then◌else◌, List, [], ◌∷◌}
use Rattle.mlr_spec.specs.declared.json.JsonStyle.TheVariants.{Single}
use Rattle.mlr_spec.specs.Json.{json_text}
use Rattle.mlr_spec.specs.Tree.{Tree, empty, string, int, fraction, wide, is_collection, text_of}

-- a map or an array is its JSON text on one line, any other value what it prints
abbrev pub shown : Tree → List ℕ
shown value = if is_collection value then json_text Single value else text_of value

-- whether a value holds the text that it shows: an empty value, a string, and a number that was read
abbrev pub holds_text : Tree → Bool
holds_text empty = true
holds_text (string text) = true
holds_text (int n []) = false
holds_text (int n (b ∷ spelling)) = true
holds_text (fraction text) = true
holds_text (wide text) = true
holds_text _ = false
