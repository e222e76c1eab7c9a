-- The options of a verb, as words give them.
use Rattle.std.specs.Prelude.{ℕ, Bool, List, [], ◌∷◌, if◌then◌else◌, Option, None}
use Rattle.std.specs.List.{list_any}
use Rattle.std.specs.Str.{bytes_eq}
use Rattle.cli_grammar.specs.declared.given.Given.{Given}

-- whether an option was given
abbrev pub has : List ℕ → List Given → Bool
has name options = list_any (λ given. bytes_eq given.name name) options

-- the word after the last option with this name, or else what came before: a later option wins
abbrev pub last_or : Option (List ℕ) → List ℕ → List Given → Option (List ℕ)
last_or before name [] = before
last_or before name (given ∷ options) = last_or (if bytes_eq given.name name then given.argument else before) name options

-- the word after the last option with this name
abbrev pub last : List ℕ → List Given → Option (List ℕ)
last name options = last_or None name options
