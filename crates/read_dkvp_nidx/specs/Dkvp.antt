-- DKVP: a line is a record, and each of its pieces is a field of key and value.
use Rattle.std.specs.Prelude.{ℕ, ◌+◌, if◌then◌else◌, List, [], ◌∷◌, length, take, drop, Some, None}
use Rattle.std.specs.Fmt.{decimal}
use Rattle.mlr_spec.specs.Infer.{tree_of_data}
use Rattle.mlr_spec.specs.Split.{place_in, split_by}
use Rattle.mlr_spec.specs.Tree.{Tree}
use Rattle.mlr_event.specs.declared.options.ReadOpts.{ReadOpts}
use Rattle.mlr_event.specs.Reading.{Item, fields, is_comment, comment_items, record_of}

-- a piece is split at the first separator of key and value; the key of a piece without separator is its
-- position
abbrev pub key_of : List ℕ → ℕ → List ℕ → List ℕ
key_of ips position piece = elim (place_in ips piece) [ Some place ↦ take place piece | None ↦ decimal position ]

abbrev pub value_of : List ℕ → List ℕ → List ℕ
value_of ips piece = elim (place_in ips piece) [ Some place ↦ drop (place + length ips) piece | None ↦ piece ]

-- the keys and the values of the pieces, of which the first has this position; an empty piece is counted, but
-- is no field
abbrev pub keys_from : List ℕ → ℕ → List (List ℕ) → List (List ℕ)
keys_from ips position [] = []
keys_from ips position ([] ∷ pieces) = keys_from ips (position + 1) pieces
keys_from ips position ((b ∷ piece) ∷ pieces) = key_of ips position (b ∷ piece) ∷ keys_from ips (position + 1) pieces

abbrev pub values_from : ReadOpts → List (List ℕ) → List Tree
values_from opts [] = []
values_from opts ([] ∷ pieces) = values_from opts pieces
values_from opts ((b ∷ piece) ∷ pieces) = tree_of_data opts.infer (value_of opts.ips (b ∷ piece)) ∷ values_from opts pieces

-- an empty line is skipped
abbrev pub dkvp_record : ReadOpts → List ℕ → List Item
dkvp_record opts [] = []
dkvp_record opts (b ∷ line) =
    let pieces = split_by opts.ifs (b ∷ line) in fields (record_of opts.dedupe (keys_from opts.ips 1 pieces) (values_from opts pieces)) ∷ []

-- the item of a line without its line ending: a comment, or a record
abbrev pub dkvp_line : ReadOpts → List ℕ → List Item
dkvp_line opts line = if is_comment opts.comments line then comment_items opts.comments line else dkvp_record opts line
