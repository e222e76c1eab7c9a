-- The last element of a list.
use Rattle.std.specs.Prelude.{List, [], ◌∷◌, Option, Some, None}
use Rattle.std.specs.Option.{unwrap_or}

-- the last element of a list, if it has one
abbrev pub last : {A : Type 0} → List A → Option A
last [] = None
last (x ∷ xs) = Some (unwrap_or (last xs) x)
