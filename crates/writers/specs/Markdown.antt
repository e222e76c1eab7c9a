-- Markdown tables: a header, a line of dashes and rows, all between bars; a bar in a cell follows a
-- backslash.
use Rattle.std.specs.Prelude.{ℕ, false, ◌==◌, if◌then◌else◌, List, [], ◌∷◌, ◌++◌, map, codes}
use Rattle.std.specs.List.{flat_map}
use Rattle.mlr_spec.specs.Ascii.{vertical_bar}
use Rattle.text_columns.specs.Pprint.{between_bars}
use Rattle.writers.specs.declared.form.Part.TheVariants.{Keys, Values}
use Rattle.writers.specs.Cells.{texts}
use Rattle.writers.specs.Headed.{headed}
use Rattle.writers.specs.Runs.{Record}

abbrev pub bar_escaped : ℕ → List ℕ
bar_escaped b = if b == vertical_bar then codes "\\|" else b ∷ []

abbrev pub bar_cell : List ℕ → List ℕ
bar_cell text = flat_map bar_escaped text

abbrev pub markdown_line : List (List ℕ) → List ℕ
markdown_line fields = between_bars (map bar_cell fields)

abbrev pub markdown_header : List (List ℕ) → List ℕ
markdown_header keys = markdown_line keys ++ between_bars (map (λ key. codes "---") keys)

-- what a record gives after the records before it
abbrev pub markdown_record : List Record → Record → List ℕ
markdown_record before r = headed false before r (markdown_header (texts Keys r)) (markdown_line (texts Values r))
