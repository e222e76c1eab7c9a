-- NIDX: a line is a record of values, and the key of a value is its position.
use Rattle.std.specs.Prelude.{ℕ, ◌+◌, if◌then◌else◌, not, ◌==◌, List, [], ◌∷◌, length}
use Rattle.std.specs.List.{filter}
use Rattle.std.specs.Fmt.{decimal}
use Rattle.mlr_spec.specs.Infer.{tree_of_data}
use Rattle.mlr_spec.specs.Split.{split_by}
use Rattle.mlr_spec.specs.Tree.{Tree}
use Rattle.mlr_event.specs.declared.options.ReadOpts.{ReadOpts}
use Rattle.mlr_event.specs.Reading.{Item, fields, is_comment, comment_items}

-- the texts between runs of separators; separators at the start and the end of the line are ignored
abbrev pub words_of : List ℕ → List ℕ → List (List ℕ)
words_of ifs line = filter (λ part. not (length part == 0)) (split_by ifs line)

-- the fields of words, of which the first has this position
abbrev pub by_position : ReadOpts → ℕ → List (List ℕ) → List (List ℕ × Tree)
by_position opts position [] = []
by_position opts position (word ∷ words) = (decimal position, tree_of_data opts.infer word) ∷ by_position opts (position + 1) words

-- a line without values is skipped
abbrev pub nidx_record : ReadOpts → List (List ℕ) → List Item
nidx_record opts [] = []
nidx_record opts (word ∷ words) = fields (by_position opts 1 (word ∷ words)) ∷ []

-- the item of a line without its line ending: a comment, or a record
abbrev pub nidx_line : ReadOpts → List ℕ → List Item
nidx_line opts line = if is_comment opts.comments line then comment_items opts.comments line else nidx_record opts (words_of opts.ifs line)
