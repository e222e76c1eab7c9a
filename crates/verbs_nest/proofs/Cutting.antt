-- The pieces of a text with and without a separator.
use Rattle.std.proofs.Common.{◌≡◌, ℕ, ◌+◌, ◌<◌, List, [], ◌∷◌, length, take, drop, None, Some, arith}
use Rattle.mlr_spec.specs.Split.{place_in}
use Rattle.mlr_spec.proofs.Splitting.{split_by-none, split_by-some}
use Rattle.verbs_nest.specs.Pieces.{pieces_of}

pub pieces-none : (separator text : List ℕ) → 0 < length separator → place_in separator text ≡ None → pieces_of separator text ≡ text ∷ []
pieces-none [] text some none = absurd (omega arith)
pieces-none (b ∷ separator) text some none = split_by-none (b ∷ separator) text none

pub pieces-some : (separator text : List ℕ) (place : ℕ) → 0 < length separator → place_in separator text ≡ Some place
    → pieces_of separator text ≡ take place text ∷ pieces_of separator (drop (place + length separator) text)
pieces-some [] text place some found = absurd (omega arith)
pieces-some (b ∷ separator) text place some found = split_by-some (b ∷ separator) text place some found
