-- How wide a text is: it is decoded as UTF-8, and each byte that is part of no code point counts as one.
use Rattle.std.specs.Prelude.{ℕ, ◌+◌, List, [], ◌∷◌, Some, None}
use Rattle.bstr.specs.Utf8.{Decoded, pieces}

-- a piece is a code point, or bytes that are none
abbrev pub points_of : Decoded → ℕ
points_of piece = elim piece.char [ None ↦ piece.size | Some c ↦ 1 ]

abbrev pub points_in : List Decoded → ℕ
points_in [] = 0
points_in (piece ∷ pieces) = points_of piece + points_in pieces

abbrev pub code_points : List ℕ → ℕ
code_points text = points_in (pieces text)
