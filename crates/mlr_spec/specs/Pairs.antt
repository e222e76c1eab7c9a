-- A record or a map: a list of pairs of a key and a value, whose keys are distinct.
use Rattle.std.specs.Prelude.{ℕ, Bool, true, not, ◌&&◌, ◌||◌, if◌then◌else◌, List, [], ◌∷◌, map, Option, Some, None, is_none}
use Rattle.std.specs.List.{list_any, position}
use Rattle.std.specs.Str.{bytes_eq}

-- no two of these texts are equal
abbrev pub are_distinct : List (List ℕ) → Bool
are_distinct [] = true
are_distinct (text ∷ texts) = not (list_any (bytes_eq text) texts) && are_distinct texts

module _ {V : Type 0} where
  abbrev pub keys_of : List (List ℕ × V) → List (List ℕ)
  keys_of pairs = map (λ pair. pair.0) pairs

  -- the value at a key
  abbrev pub value_at : List ℕ → List (List ℕ × V) → Option V
  value_at key [] = None
  value_at key (pair ∷ pairs) = if bytes_eq pair.0 key then Some pair.1 else value_at key pairs

  -- the pairs with this value at the key: in its place if it is there, else last
  abbrev pub put_at : List ℕ → V → List (List ℕ × V) → List (List ℕ × V)
  put_at key value [] = (key, value) ∷ []
  put_at key value (pair ∷ pairs) = if bytes_eq pair.0 key then (pair.0, value) ∷ pairs else pair ∷ put_at key value pairs

  -- more pairs, set one after another
  abbrev pub put_each : List (List ℕ × V) → List (List ℕ × V) → List (List ℕ × V)
  put_each pairs [] = pairs
  put_each pairs (pair ∷ more) = put_each (put_at pair.0 pair.1 pairs) more

  -- the pairs without that of the key
  abbrev pub remove_at : List ℕ → List (List ℕ × V) → List (List ℕ × V)
  remove_at key [] = []
  remove_at key (pair ∷ pairs) = if bytes_eq pair.0 key then pairs else pair ∷ remove_at key pairs

  -- the place of a key
  abbrev pub place_at : List ℕ → List (List ℕ × V) → Option ℕ
  place_at key pairs = position (λ pair. bytes_eq pair.0 key) pairs

  -- the pairs with another name for that of the old key
  abbrev pub with_name : List ℕ → List ℕ → List (List ℕ × V) → List (List ℕ × V)
  with_name old new [] = []
  with_name old new (pair ∷ pairs) = if bytes_eq pair.0 old then (new, pair.1) ∷ pairs else pair ∷ with_name old new pairs

  -- a renaming keeps the place of the old key and takes out another pair of the new one; without the old key nothing changes
  abbrev pub rename_at : List ℕ → List ℕ → List (List ℕ × V) → List (List ℕ × V)
  rename_at old new pairs =
      if bytes_eq old new || is_none (value_at old pairs) then pairs else with_name old new (remove_at new pairs)
