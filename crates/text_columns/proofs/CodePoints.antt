-- Code points, piece by piece.
use Rattle.std.proofs.Common.{◌≡◌, ℕ, ◌+◌, ◌<◌, ◌≤◌, ◌==◌, ◌&&◌, Bool, true, false, nat_lt, List, [], ◌∷◌, length, drop, Option, Some, None, refl, ap, ◌∙◌, arith}
use Rattle.std.specs.List.{list_all}
use Rattle.std.proofs.lemmas.Bool.{cond-false, cond-true}
use Rattle.std.proofs.lemmas.Bool.Decides.{nat_tests}
use Rattle.bstr.specs.Utf8.{decoded, good}
use Rattle.bstr.proofs.lemmas.PieceLemmas.{piece-bounds, pieces-nil, pieces-step}
use Rattle.text_columns.specs.Width.{points_of, points_in, code_points}

pub points-step : (text : List ℕ) → 0 < length text → code_points text ≡ points_of (decoded text) + code_points (drop (decoded text).size text)
points-step text some = ap points_in (pieces-step text some)

points-few : (char : Option ℕ) (size : ℕ) → 1 ≤ size → points_of (record { char = char; size = size }) ≤ size
points-few None size some = omega arith
points-few (Some c) size some = some

pub points-bounds : (text : List ℕ) → 0 < length text
    → (points_of (decoded text) ≤ (decoded text).size) × (1 ≤ (decoded text).size) × ((decoded text).size ≤ length text)
points-bounds text some =
    let bounds = piece-bounds text some in
    (points-few (decoded text).char (decoded text).size bounds.0, bounds.0, bounds.2)

pub points-none : (text : List ℕ) → length text ≡ 0 → code_points text ≡ 0
points-none [] none = ap points_in pieces-nil
points-none (b ∷ text) none = absurd (omega (arith, none))

both : (a b : Bool) → (a && b) ≡ true → (a ≡ true) × (b ≡ true)
both true b h = (refl, h)
both false b h = absurd (let e : false ≡ true = h in cc)

ascii-first : (b : ℕ) (text : List ℕ) → nat_lt b 128 ≡ true → decoded (b ∷ text) ≡ good b 1
ascii-first b text low =
    let some : (length (b ∷ text) == 0) ≡ false = grind (arith, nat_tests) in
    cond-false (length (b ∷ text) == 0) _ _ some ∙ cond-true (nat_lt b 128) _ _ low

-- a text of ASCII alone has as many code points as bytes
pub ascii-points : (text : List ℕ) → list_all (λ b. nat_lt b 128) text ≡ true → code_points text ≡ length text
ascii-points [] low = ap points_in pieces-nil
ascii-points (b ∷ text) low =
    let parts = both (nat_lt b 128) (list_all (λ b. nat_lt b 128) text) low in
    let first : code_points (b ∷ text) ≡ 1 + code_points text =
    points-step (b ∷ text) (omega arith) ∙ ap (λ piece. points_of piece + code_points (drop piece.size (b ∷ text))) (ascii-first b text parts.0) in
    omega (arith, first, ascii-points text parts.1)
