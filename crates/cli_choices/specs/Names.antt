-- Lists of names in words.
use Rattle.std.specs.Prelude.{ℕ, if◌then◌else◌, List, [], ◌∷◌, ◌++◌, codes, Option}
use Rattle.std.specs.Option.{option_map}
use Rattle.mlr_event.specs.Reading.{is_among}
use Rattle.mlr_spec.specs.Split.{split_by}
use Rattle.cli_grammar.specs.declared.given.Given.{Given}
use Rattle.cli_grammar.specs.Options.{last}

-- the names between the commas of a word
abbrev pub all_names : List ℕ → List (List ℕ)
all_names word = split_by (codes ",") word

-- the names that aren't among those seen before, each once, where it stands first
abbrev pub distinct_after : List (List ℕ) → List (List ℕ) → List (List ℕ)
distinct_after seen [] = []
distinct_after seen (name ∷ names) = if is_among seen name then distinct_after seen names else name ∷ distinct_after (seen ++ name ∷ []) names

-- the names in a word, where a repeated name counts once
abbrev pub names_in : List ℕ → List (List ℕ)
names_in word = distinct_after [] (all_names word)

-- the names that an option gives, if it was given
abbrev pub given_names : List ℕ → List Given → Option (List (List ℕ))
given_names option options = option_map names_in (last option options)
