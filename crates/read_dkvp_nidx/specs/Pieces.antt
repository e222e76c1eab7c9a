-- A record after one more field of DKVP, or one more value of NIDX.
use Rattle.std.specs.Prelude.{ℕ, ◌+◌, List, [], ◌∷◌, ◌++◌}
use Rattle.std.specs.Fmt.{decimal}
use Rattle.mlr_spec.specs.Infer.{tree_of_data}
use Rattle.mlr_spec.specs.Tree.{Tree}
use Rattle.mlr_event.specs.declared.options.ReadOpts.{ReadOpts}
use Rattle.mlr_event.specs.Rows.{with_field}
use Rattle.read_dkvp_nidx.specs.Dkvp.{key_of, value_of}

-- DKVP: the record after the piece at this position
abbrev pub with_piece : ReadOpts → ℕ → List ℕ → List (List ℕ × Tree) → List (List ℕ × Tree)
with_piece opts position [] pairs = pairs
with_piece opts position (b ∷ piece) pairs =
    with_field opts.dedupe (key_of opts.ips position (b ∷ piece)) (tree_of_data opts.infer (value_of opts.ips (b ∷ piece))) pairs

-- NIDX: the record after one more word unless that is empty, and the next position
abbrev pub with_word : ReadOpts → ℕ → List ℕ → List (List ℕ × Tree) → List (List ℕ × Tree)
with_word opts position [] pairs = pairs
with_word opts position (b ∷ word) pairs = pairs ++ (decimal position, tree_of_data opts.infer (b ∷ word)) ∷ []

abbrev pub position_after : ℕ → List ℕ → ℕ
position_after position [] = position
position_after position (b ∷ word) = position + 1
