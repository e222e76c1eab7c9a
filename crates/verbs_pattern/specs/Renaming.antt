-- A record whose names are rewritten by patterns.
use Rattle.std.specs.Prelude.{ℕ, List, [], ◌∷◌, ◌++◌, if◌then◌else◌}
use Rattle.std.specs.Str.{bytes_eq}
use Rattle.regex.specs.Patterns.{Re}
use Rattle.mlr_spec.specs.Pairs.{remove_at}
use Rattle.mlr_spec.specs.Tree.{Tree}
use Rattle.mlr_event.specs.Reading.{is_among}
use Rattle.mlr_pattern.specs.declared.which.Which.{Which}
use Rattle.mlr_pattern.specs.Replacing.{matches_of, replaced}

-- The fields from left to right, after those that are done. Each field keeps its place and gets its new name,
-- and another field with that name is removed. So a later field whose name another field got (`made`) is
-- dropped, and isn't renamed itself.
abbrev pub renamed_from : (List ℕ → List ℕ) → List (List ℕ × Tree) → List (List ℕ) → List (List ℕ × Tree) → List (List ℕ × Tree)
renamed_from new_name done made [] = done
renamed_from new_name done made (pair ∷ todo) =
    if is_among made pair.0 then renamed_from new_name done made todo
    else if bytes_eq (new_name pair.0) pair.0 then renamed_from new_name (done ++ pair ∷ []) made todo
    else renamed_from new_name (remove_at (new_name pair.0) done ++ (new_name pair.0, pair.1) ∷ []) (new_name pair.0 ∷ made) todo

-- renaming by one pattern, which replaces its matches in the names
abbrev pub renamed_by : Which → Re → List ℕ → List (List ℕ × Tree) → List (List ℕ × Tree)
renamed_by which re by pairs = renamed_from (λ name. replaced name by (matches_of which re name)) [] [] pairs

-- renaming by several patterns in turn, each with its replacement
abbrev pub renamed_by_each : Which → List (Re × List ℕ) → List (List ℕ × Tree) → List (List ℕ × Tree)
renamed_by_each which [] pairs = pairs
renamed_by_each which (rule ∷ rules) pairs = renamed_by_each which rules (renamed_by which rule.0 rule.1 pairs)
