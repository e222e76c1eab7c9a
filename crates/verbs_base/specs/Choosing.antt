-- Fields chosen by their names.
use Rattle.std.specs.Prelude.{ℕ, Bool, true, false, not, List, [], ◌∷◌, Option}
use Rattle.std.specs.List.{filter, filter_map}
use Rattle.std.specs.Option.{option_map}
use Rattle.std.specs.Str.{bytes_eq}
use Rattle.mlr_spec.specs.Tree.{Tree, empty}
use Rattle.mlr_spec.specs.Pairs.{value_at}
use Rattle.mlr_event.specs.Reading.{is_among}

-- the named fields, in the record's order
abbrev pub kept : List (List ℕ) → List (List ℕ × Tree) → List (List ℕ × Tree)
kept names pairs = filter (λ pair. is_among names pair.0) pairs

-- the fields that aren't named
abbrev pub dropped : List (List ℕ) → List (List ℕ × Tree) → List (List ℕ × Tree)
dropped names pairs = filter (λ pair. not (is_among names pair.0)) pairs

-- each name once, at its first place
abbrev pub once : List (List ℕ) → List (List ℕ)
once [] = []
once (name ∷ names) = name ∷ filter (λ other. not (bytes_eq name other)) (once names)

-- the field with this name, if there is one
abbrev pub named : List (List ℕ × Tree) → List ℕ → Option (List ℕ × Tree)
named pairs name = option_map (λ value. (name, value)) (value_at name pairs)

-- the named fields, in the order of the names
abbrev pub picked : List (List ℕ) → List (List ℕ × Tree) → List (List ℕ × Tree)
picked names pairs = filter_map (named pairs) (once names)

-- whether a value is the empty text
abbrev pub is_empty : Tree → Bool
is_empty empty = true
is_empty _ = false
