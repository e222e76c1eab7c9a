-- XTAB: a line for each field of a record, whose values are in one column.
use Rattle.std.specs.Prelude.{ℕ, ◌-◌, max, List, [], ◌∷◌, ◌++◌, replicate}
use Rattle.std.specs.List.{flat_map, fold}
use Rattle.mlr_spec.specs.Ascii.{line_feed, space}
use Rattle.mlr_spec.specs.Tree.{Tree}
use Rattle.text_forms.specs.Shown.{shown}
use Rattle.text_columns.specs.Width.{code_points}

-- a text and the spaces after it that fill its column, whose width counts code points
abbrev pub padded : ℕ → List ℕ → List ℕ
padded width text = text ++ replicate (width - code_points text) space

abbrev pub longest_key : List (List ℕ × Tree) → ℕ
longest_key r = fold (λ width field. max width (code_points field.0)) 0 r

abbrev pub xtab_line : ℕ → List ℕ × Tree → List ℕ
xtab_line width field = padded width field.0 ++ space ∷ shown field.1 ++ line_feed ∷ []

abbrev pub xtab_lines : List (List ℕ × Tree) → List ℕ
xtab_lines r = flat_map (xtab_line (longest_key r)) r
