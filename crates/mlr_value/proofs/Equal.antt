-- The first of sixteen lanes that passes a test, and cells that are compared lane by lane.
use Rattle.std.proofs.Common.{◌≡◌, ℕ, zero, suc, ◌+◌, ◌≤◌, ◌%◌, ◌^◌, ◌&&◌, Bool, true, false, not, cond, eqb, nat_le, List, [], ◌∷◌, map, length, take, inl, inr, refl, sym, ap, ap₂, ◌∙◌, arith}
use Rattle.std.specs.List.{prefix_len}
use Rattle.std.specs.Str.{bytes_eq}
use Rattle.std.proofs.Math.Dec.{leb-zero, leb-suc-zero, leb-suc-suc}
use Rattle.std.proofs.lemmas.Bool.Decides.{leb_tells}
use Rattle.std.proofs.lemmas.Bool.{ne_eqb}
use Rattle.std.proofs.lemmas.List.{map-id}
use Rattle.std.proofs.lemmas.Simd.{first_set_mask_l, mask_l-mod}
use Rattle.std.specs.Int.Count.{trailing_of_zero}
use lib.Count.{count_trailing_zeros}
use lib.Lanes.{mask_l, top, zip2}

-- the lane of a byte that is compared with another, which tells whether they differ
abbrev pub miss : ℕ → ℕ → ℕ
miss a b = cond (not (eqb a b)) 255 0

abbrev differ : ℕ → ℕ → Bool
differ a b = not (eqb a b)

top-miss : (t : Bool) → top 7 (cond t 255 0) ≡ t
top-miss true = refl
top-miss false = refl

tops : (xs ys : List ℕ) → map (top 7) (zip2 miss xs ys) ≡ zip2 differ xs ys
tops [] ys = refl
tops (x ∷ xs) [] = refl
tops (x ∷ xs) (y ∷ ys) = ap₂ (λ (t : Bool) ts. t ∷ ts) (top-miss (differ x y)) (tops xs ys)

length-zip : (xs ys : List ℕ) → length xs ≡ length ys → length (zip2 differ xs ys) ≡ length xs
length-zip [] ys e = refl
length-zip (x ∷ xs) [] e = absurd (omega (arith, e))
length-zip (x ∷ xs) (y ∷ ys) e = ap suc (length-zip xs ys (omega (arith, e)))

one-more : (t : Bool) (n p : ℕ) (rest : Bool) → nat_le n p ≡ rest → nat_le (suc n) (cond (not (not t)) (1 + p) 0) ≡ (t && rest)
one-more true n p rest e = let more : 1 + p ≡ suc p = omega arith in ap (nat_le (suc n)) more ∙ leb-suc-suc n p ∙ e
one-more false n p rest e = leb-suc-zero n

-- so many cells are equal as texts exactly if they come before the first that differs
equal-before : (n : ℕ) (xs ys : List ℕ) → length xs ≡ length ys → n ≤ length xs
    → nat_le n (prefix_len (λ (t : Bool). not t) (zip2 differ xs ys)) ≡ bytes_eq (take n xs) (take n ys)
equal-before zero xs ys same le = leb-zero (prefix_len (λ (t : Bool). not t) (zip2 differ xs ys))
equal-before (suc n) [] ys same le = absurd (omega (arith, le))
equal-before (suc n) (x ∷ xs) [] same le = absurd (omega (arith, same))
equal-before (suc n) (x ∷ xs) (y ∷ ys) same le =
    one-more (eqb x y) n (prefix_len (λ (t : Bool). not t) (zip2 differ xs ys)) (bytes_eq (take n xs) (take n ys))
    (equal-before n xs ys (omega (arith, same)) (omega (arith, le)))

at-most : (n m : ℕ) → n ≤ m → nat_le n m ≡ true
at-most n m le = elim (leb_tells n m) [ inl above ↦ above.0 | inr below ↦ absurd (omega (arith, below.1, le)) ]

-- where no bit is set, the number of trailing zeros is more than the number of cells
same-limit : (n m place before : ℕ) → n ≤ 16 → (m ≡ 0 → place ≡ 64) → cond (eqb m 0) 16 place ≡ before → nat_le n place ≡ nat_le n before
same-limit n zero place before le none is =
    at-most n place (omega (arith, none refl, le)) ∙ sym (at-most n before (omega (arith, is, le)))
same-limit n (suc m) place before le none is =
    ap (nat_le n) (sym (ap (λ t. cond t 16 place) (ne_eqb (suc m) 0 (λ e. omega (arith, e)))) ∙ is)

-- where no lane passes, the number of trailing zeros is more than the number of lanes
pub limit : (p : ℕ → Bool) (xs : List ℕ) (n : ℕ) → length xs ≡ 16 → n ≤ 16
    → nat_le n (count_trailing_zeros 64 (mask_l (map p xs))) ≡ nat_le n (prefix_len (λ x. not (p x)) xs)
limit p xs n long le =
    same-limit n (mask_l (map p xs)) (count_trailing_zeros 64 (mask_l (map p xs))) (prefix_len (λ x. not (p x)) xs) le
    (λ none. ap (count_trailing_zeros 64) none ∙ trailing_of_zero 64)
    (first_set_mask_l p xs 16 long (omega arith))

pub equal-mask : (xs ys : List ℕ) → length xs ≡ 16 → length ys ≡ 16 → (n : ℕ) → n ≤ 16
    → nat_le n (count_trailing_zeros 64 (mask_l (map (top 7) (zip2 miss xs ys)) % 2 ^ 64)) ≡ bytes_eq (take n xs) (take n ys)
equal-mask xs ys long other n le =
    let lanes = zip2 differ xs ys in
    let count : length lanes ≡ 16 = length-zip xs ys (long ∙ sym other) ∙ long in
    let mask : mask_l (map (top 7) (zip2 miss xs ys)) % 2 ^ 64 ≡ mask_l lanes =
    ap (λ ms. mask_l ms % 2 ^ 64) (tops xs ys) ∙ mask_l-mod lanes 64 (omega (arith, count)) in
    ap (λ m. nat_le n (count_trailing_zeros 64 m)) mask
    ∙ same-limit n (mask_l lanes) (count_trailing_zeros 64 (mask_l lanes)) (prefix_len (λ (t : Bool). not t) lanes) le
    (λ none. ap (count_trailing_zeros 64) none ∙ trailing_of_zero 64)
    (ap (λ ms. cond (eqb (mask_l ms) 0) 16 (count_trailing_zeros 64 (mask_l ms))) (sym (map-id lanes)) ∙ first_set_mask_l (λ (t : Bool). t) lanes 16 count (omega arith))
    ∙ equal-before n xs ys (long ∙ sym other) (omega (arith, long, le))
