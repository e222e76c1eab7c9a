-- What the two verbs of explosions make of pieces: pairs, where there is a separator for them, or else values.
use Rattle.std.specs.Prelude.{ℕ, List, map, Option, Some, None}
use Rattle.mlr_spec.specs.JsonGrammar.{text_value}
use Rattle.mlr_spec.specs.Tree.{Tree}
use Rattle.verbs_base.specs.Records.{Fields}
use Rattle.verbs_nest.specs.Pieces.{numbered, pair_of_piece}

-- the field of a piece that gets a record of its own
abbrev pub across_records : List ℕ → Option (List ℕ) → List ℕ → List ℕ × Tree
across_records name (Some separator) piece = pair_of_piece name separator piece
across_records name None piece = (name, text_value piece)

-- the fields of pieces that stand in one record
abbrev pub across_fields : List ℕ → Option (List ℕ) → List (List ℕ) → Fields
across_fields name (Some separator) pieces = map (pair_of_piece name separator) pieces
across_fields name None pieces = numbered name 1 pieces
