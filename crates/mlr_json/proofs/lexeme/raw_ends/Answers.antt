use Rattle.std.proofs.Common.{◌≡◌, ℕ, ◌%◌, ◌^◌, Bool, true, false, ◌||◌, ◌==◌, cond, List, [], ◌∷◌, map, refl, ap, ap₂, ◌∙◌, arith}
use Rattle.std.proofs.lemmas.Simd.{zip2_of_maps, zip2_splat, map-map, mask_l-mod}
use Rattle.std.proofs.lemmas.List.{length-map}
use lib.Bits.{bit_or}
use lib.Lanes.{mask_l, top}
use Rattle.mlr_json.specs.Seen.{ends_raw}
use Rattle.mlr_json.proofs.lexeme.raw_ends.Goals as goal

-- a lane of a comparison
abbrev hit : ℕ → ℕ → ℕ
hit a b = cond (a == b) 255 0

top-either : (a b : Bool) → top 7 (bit_or (cond a 255 0) (cond b 255 0)) ≡ (a || b)
top-either true true = refl
top-either true false = refl
top-either false true = refl
top-either false false = refl

tops : (xs : List ℕ) → map (λ x. top 7 (bit_or (hit x 34) (hit x 92))) xs ≡ map ends_raw xs
tops [] = refl
tops (x ∷ xs) = ap₂ (λ b bs. b ∷ bs) (top-either (x == 34) (x == 92)) (tops xs)

pub returns : goal.returns
returns c =
    let v = c.args.bytes in
    let long = c.fits-bytes.0 in
    ap (λ l. mask_l (map (top 7) l) % 2 ^ 64) (zip2_of_maps bit_or (λ x. hit x 34) (λ x. hit x 92) v (zip2_splat hit v 16 34 long) (zip2_splat hit v 16 92 long))
    ∙ ap (λ l. mask_l l % 2 ^ 64) (map-map (top 7) (λ x. bit_or (hit x 34) (hit x 92)) v ∙ tops v)
    ∙ mask_l-mod (map ends_raw v) 64 (omega (arith, long, length-map v ends_raw))
