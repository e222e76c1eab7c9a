-- XTAB: a record is a run of lines, each a key and a value; records are separated by empty lines.
use Rattle.std.specs.Prelude.{ℕ, Bool, not, ◌&&◌, ◌==◌, List, [], ◌∷◌, ◌++◌, map, length, drop}
use Rattle.std.specs.List.{before_first, filter, flat_map, prefix_len, slice_split}
use Rattle.mlr_spec.specs.Ascii.{space}
use Rattle.mlr_spec.specs.Infer.{tree_of_data}
use Rattle.mlr_event.specs.declared.options.ReadOpts.{ReadOpts}
use Rattle.mlr_event.specs.Reading.{Item, fields, is_comment, comment_items, record_of}

abbrev pub is_space : ℕ → Bool
is_space b = b == space

abbrev pub without_spaces : List ℕ → List ℕ
without_spaces text = drop (prefix_len is_space text) text

-- the key and the value of a line: leading spaces are dropped, the key ends at the first space, and the value
-- follows the spaces after the key
abbrev pub key_in : List ℕ → List ℕ
key_in line = before_first is_space (without_spaces line)

abbrev pub value_in : List ℕ → List ℕ
value_in line = without_spaces (drop (length (key_in line)) (without_spaces line))

-- an empty line, or a line of spaces
abbrev pub is_gap : List ℕ → Bool
is_gap line = length (without_spaces line) == 0

-- the record of these lines, if there are any
abbrev pub record_items : ReadOpts → List (List ℕ) → List Item
record_items opts [] = []
record_items opts (line ∷ lines) =
    fields (record_of opts.dedupe (map key_in (line ∷ lines)) (map (λ l. tree_of_data opts.infer (value_in l)) (line ∷ lines))) ∷ []

-- a line that ends a record: an empty line, or a line of spaces; a comment doesn't
abbrev pub ends_record : ReadOpts → List ℕ → Bool
ends_record opts line = not (is_comment opts.comments line) && is_gap line

-- the comments among these lines, and the others
abbrev pub comments_in : ReadOpts → List (List ℕ) → List Item
comments_in opts lines = flat_map (comment_items opts.comments) (filter (is_comment opts.comments) lines)

abbrev pub others_in : ReadOpts → List (List ℕ) → List (List ℕ)
others_in opts lines = filter (λ line. not (is_comment opts.comments line)) lines

-- the items of a run of lines: its comments, and then the record of the others
abbrev pub run_items : ReadOpts → List (List ℕ) → List Item
run_items opts lines = comments_in opts lines ++ record_items opts (others_in opts lines)

-- the items of all lines of a file: those of the runs between the lines that end a record
abbrev pub xtab_items : ReadOpts → List (List ℕ) → List Item
xtab_items opts lines = flat_map (run_items opts) (slice_split (ends_record opts) lines)

abbrev pub without_last : {A : Type 0} → List A → List A
without_last [] = []
without_last (x ∷ []) = []
without_last (x ∷ y ∷ xs) = x ∷ without_last (y ∷ xs)

-- the items that lines fix, whatever follows: those of the runs that have ended
abbrev pub xtab_fixed : ReadOpts → List (List ℕ) → List Item
xtab_fixed opts lines = flat_map (run_items opts) (without_last (slice_split (ends_record opts) lines))
