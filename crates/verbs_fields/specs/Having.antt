-- The tests of `having-fields`.
use Rattle.std.specs.Prelude.{ℕ, Bool, false, not, List}
use Rattle.std.specs.List.{list_all, list_any}
use Rattle.std.specs.Option.{is_some, option_map_or}
use Rattle.mlr_spec.specs.Tree.{Tree}
use Rattle.mlr_spec.specs.Pairs.{value_at}
use Rattle.mlr_event.specs.Reading.{is_among}
use Rattle.verbs_base.specs.Choosing.{is_empty}

-- whether there is a field of each name
abbrev pub has_all : List (List ℕ) → List (List ℕ × Tree) → Bool
has_all names pairs = list_all (λ name. is_some (value_at name pairs)) names

-- whether each field has one of the names
abbrev pub has_no_others : List (List ℕ) → List (List ℕ × Tree) → Bool
has_no_others names pairs = list_all (λ pair. is_among names pair.0) pairs

-- whether there is a field of this name that isn't empty
abbrev pub is_defined : List (List ℕ × Tree) → List ℕ → Bool
is_defined pairs name = option_map_or (λ value. not (is_empty value)) (value_at name pairs) false

abbrev pub all_defined : List (List ℕ) → List (List ℕ × Tree) → Bool
all_defined names pairs = list_all (is_defined pairs) names

abbrev pub any_defined : List (List ℕ) → List (List ℕ × Tree) → Bool
any_defined names pairs = list_any (is_defined pairs) names
