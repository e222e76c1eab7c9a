-- A list that another one begins with.
use Rattle.std.specs.Prelude.{◌≡◌, List, ◌++◌}

abbrev pub IsPrefix : {A : Type 0} → List A → List A → Type 0
IsPrefix {A} prefix xs = (more : List A) × (xs ≡ prefix ++ more)
