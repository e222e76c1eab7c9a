-- `grep`: the records that it passes, by their text.
use Rattle.std.specs.Prelude.{ℕ, Bool, not, List, [], ◌∷◌, if◌then◌else◌}
use Rattle.std.specs.Arc.{arc_value}
use Rattle.mlr_spec.specs.Ascii.{comma, equals_sign}
use Rattle.mlr_spec.specs.Tree.{Tree}
use Rattle.regex.specs.Bytes.{regex_pattern}
use Rattle.regex.specs.Patterns.{Re}
use Rattle.text_forms.specs.Dkvp.{dkvp_text}
use Rattle.verbs_base.specs.Records.{Fields}
use Rattle.verbs_pattern.specs.Matching.{has_match}
use Rattle.verbs_pattern.specs.declared.grep.Grep.{Grep}

-- the text of a record: its fields as `name=value`, with commas between them
abbrev pub record_text : List (List ℕ × Tree) → List ℕ
record_text pairs = dkvp_text (comma ∷ []) (equals_sign ∷ []) pairs

-- whether a record passes: the pattern matches somewhere in its text, or with `others` nowhere
abbrev pub passes_grep : Bool → Re → List (List ℕ × Tree) → Bool
passes_grep others re pairs = if others then not (has_match re (record_text pairs)) else has_match re (record_text pairs)

-- `grep`: whether a record passes
abbrev pub grep : Grep → Fields → Bool
grep options fields = passes_grep options.others (regex_pattern (arc_value options.pattern)) fields
