-- `sub`, `gsub` and `ssub` on one value.
use Rattle.std.specs.Prelude.{ℕ, ◌+◌, List, [], ◌∷◌, ◌++◌, take, drop, length, Option, Some, None}
use Rattle.regex.specs.Patterns.{Re}
use Rattle.mlr_spec.specs.JsonGrammar.{text_value}
use Rattle.mlr_spec.specs.Split.{place_in}
use Rattle.mlr_spec.specs.Tree.{Tree, absent, error, mapping, array, text_of}
use Rattle.mlr_pattern.specs.declared.which.Which.{Which}
use Rattle.mlr_pattern.specs.Replacing.{matches_of, replaced}

-- A change of texts, applied to a value. Absent and error are unchanged, and a map or an array gives error.
-- Any other value gives its changed text as a string, or the empty value if no bytes remain.
abbrev pub on_text : (List ℕ → List ℕ) → Tree → Tree
on_text change absent = absent
on_text change error = error
on_text change (mapping pairs) = error
on_text change (array items) = error
on_text change value = text_value (change (text_of value))

-- the value with matches of a pattern replaced in its text
abbrev pub sub_of : Which → Re → List ℕ → Tree → Tree
sub_of which re by value = on_text (λ text. replaced text by (matches_of which re text)) value

-- the text with `old` replaced at a place, if there is one
abbrev pub replaced_at : List ℕ → List ℕ → List ℕ → Option ℕ → List ℕ
replaced_at old by text None = text
replaced_at old by text (Some place) = take place text ++ by ++ drop (place + length old) text

-- the text with the first `old` in it replaced; an empty `old` changes nothing
abbrev pub plainly_replaced : List ℕ → List ℕ → List ℕ → List ℕ
plainly_replaced [] by text = text
plainly_replaced (b ∷ old) by text = replaced_at (b ∷ old) by text (place_in (b ∷ old) text)

-- the value with the first `old` in its text replaced
abbrev pub ssub_of : List ℕ → List ℕ → Tree → Tree
ssub_of old by value = on_text (plainly_replaced old by) value
