-- The texts between two brackets, each after its separator from the bracket or the text before it.
use Rattle.std.specs.Prelude.{ℕ, Bool, true, false, List, [], ◌∷◌, ◌++◌, codes}
use Rattle.mlr_spec.specs.Ascii.{comma}
use Rattle.mlr_spec.specs.Json.{new_line}

-- before the first text and before a later one, on lines of this level or all on one line
abbrev pub gap : Bool → Bool → ℕ → List ℕ
gap true true level = new_line level
gap true false level = comma ∷ new_line level
gap false true level = []
gap false false level = codes ", "

-- before the closing bracket, whose level this is
abbrev pub line_end : Bool → ℕ → List ℕ
line_end true level = new_line level
line_end false level = []

abbrev pub led : Bool → Bool → ℕ → List (List ℕ) → List ℕ
led lines first level [] = []
led lines first level (text ∷ texts) = gap lines first level ++ text ++ led lines false level texts
