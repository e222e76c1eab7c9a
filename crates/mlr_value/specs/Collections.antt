-- What the pairs of a map, and the values of an array, are to contracts.
use Rattle.std.specs.Prelude.{◌≡◌, ℕ, Bool, false, List, map, Option, MatchOption}
use Rattle.std.specs.List.{list_any}
use Rattle.std.specs.Str.{bytes_eq}
use Rattle.mlr_spec.specs.Tree.{Tree}
use Rattle.mlr_spec.specs.Pairs.{keys_of}
use Rattle.mlr_value.specs.declared.value.Value.{Value}
use Rattle.mlr_value.specs.declared.map_value.Pair.{Pair}
use Rattle.mlr_value.specs.declared.map_value.Columns.{Columns}
use Rattle.mlr_value.specs.Value.{tree_of}
use Rattle.mlr_keys.specs.Keys.{IsFirst, Knows}

abbrev pub trees_in : List Value → List Tree
trees_in values = map tree_of values

abbrev pub pair_of : Pair → List ℕ × Tree
pair_of pair = (pair.key, tree_of pair.value)

abbrev pub pairs_of : List Pair → List (List ℕ × Tree)
pairs_of pairs = map pair_of pairs

-- whether a pair has this key
abbrev pub has_key : List ℕ → Pair → Bool
has_key key pair = bytes_eq pair.key key

-- the place of the one pair with this key, or none where no pair has it
abbrev pub IsPlaceOf : List ℕ → List Pair → Option ℕ → Type 0
IsPlaceOf key pairs place = MatchOption place (list_any (has_key key) pairs ≡ false) (IsFirst (has_key key) pairs)

-- the index of a map knows its keys
abbrev pub IsIndex : Columns → Type 0
IsIndex columns = Knows columns.index (keys_of (pairs_of columns.pairs.items))
