-- Texts searched for a few bytes, lane by lane and from the start on.
use Rattle.std.proofs.Common.{◌≡◌, ℕ, zero, suc, ◌+◌, ◌*◌, ◌-◌, ◌≤◌, ◌||◌, ◌%◌, ◌^◌, Bool, true, false, not, cond, eqb, List, [], ◌∷◌, map, length, nat_le, nat_lt, take, drop, get_or, inl, inr, refl, sym, ap, ap₂, ◌∙◌, arith}
use Rattle.std.specs.List.{list_any}
use Rattle.std.proofs.lemmas.Bool.{ne_eqb}
use Rattle.std.proofs.lemmas.Simd.{mask_l-mod}
use Rattle.std.proofs.lemmas.List.{length-map, take-append-drop}
use Rattle.std.proofs.lemmas.List.Folds.{list_any-append}
use Rattle.std.proofs.Math.Seq.{take-add}
use Rattle.std.specs.List.{prefix_len}
use Rattle.std.proofs.Math.Dec.{leb-zero, leb-suc-zero, leb-suc-suc}
use Rattle.std.proofs.lemmas.Bool.{le-ltb, lt-ltb}
use Rattle.std.proofs.lemmas.Bool.Decides.{leb_tells}
use lib.Bits.{bit_or}
use lib.Count.{count_trailing_zeros}
use lib.Lanes.{mask_l, top}
use Rattle.mlr_value.proofs.Equal.{limit}
use Rattle.mlr_value.specs.Stops.{has_stop, is_stop}

-- the lane of a byte that is compared with another
abbrev pub hit : ℕ → ℕ → ℕ
hit a b = cond (eqb a b) 255 0

some-bit : (bit : Bool) (m : ℕ) → not (eqb (cond bit 1 0 + 2 * m) 0) ≡ (bit || not (eqb m 0))
some-bit true m = ap not (ne_eqb (1 + 2 * m) 0 (λ e. omega (arith, e)))
some-bit false zero = refl
some-bit false (suc m) = ap not (ne_eqb (0 + 2 * suc m) 0 (λ e. omega (arith, e)) ∙ sym (ne_eqb (suc m) 0 (λ e. omega (arith, e))))

-- a mask isn't empty where a lane passes
pub any-mask : (p : ℕ → Bool) (xs : List ℕ) → not (eqb (mask_l (map p xs)) 0) ≡ list_any p xs
any-mask p [] = refl
any-mask p (x ∷ xs) = some-bit (p x) (mask_l (map p xs)) ∙ ap (λ t. p x || t) (any-mask p xs)

abbrev four : ℕ → ℕ → ℕ → ℕ → ℕ
four a b c d = bit_or (bit_or (bit_or a b) c) d

any-of-four : (t u v w : Bool) → top 7 (four (cond t 255 0) (cond u 255 0) (cond v 255 0) (cond w 255 0)) ≡ (t || (u || (v || (w || false))))
any-of-four true true true true = refl
any-of-four true true true false = refl
any-of-four true true false true = refl
any-of-four true true false false = refl
any-of-four true false true true = refl
any-of-four true false true false = refl
any-of-four true false false true = refl
any-of-four true false false false = refl
any-of-four false true true true = refl
any-of-four false true true false = refl
any-of-four false true false true = refl
any-of-four false true false false = refl
any-of-four false false true true = refl
any-of-four false false true false = refl
any-of-four false false false true = refl
any-of-four false false false false = refl

stop-lanes : (a b c d : ℕ) (xs : List ℕ) → map (top 7) (map (λ x. four (hit x a) (hit x b) (hit x c) (hit x d)) xs) ≡ map (is_stop (a ∷ b ∷ c ∷ d ∷ [])) xs
stop-lanes a b c d [] = refl
stop-lanes a b c d (x ∷ xs) = ap₂ (λ y ys. y ∷ ys) (any-of-four (eqb x a) (eqb x b) (eqb x c) (eqb x d)) (stop-lanes a b c d xs)

-- what is computed of sixteen lanes
pub stop-mask : (stops xs z : List ℕ) → length stops ≡ 4 → length xs ≡ 16
    → z ≡ map (λ x. four (hit x (get_or stops 0 0)) (hit x (get_or stops 1 0)) (hit x (get_or stops 2 0)) (hit x (get_or stops 3 0))) xs
    → mask_l (map (top 7) z) % 2 ^ 64 ≡ mask_l (map (is_stop stops) xs)
stop-mask (a ∷ b ∷ c ∷ d ∷ []) xs z count long is =
    let stop = is_stop (a ∷ b ∷ c ∷ d ∷ []) in
    ap (λ l. mask_l l % 2 ^ 64) (ap (map (top 7)) is ∙ stop-lanes a b c d xs)
    ∙ mask_l-mod (map stop xs) 64 (omega (arith, length-map xs stop, long))
stop-mask [] xs z count long is = absurd (omega (arith, count))
stop-mask (a ∷ []) xs z count long is = absurd (omega (arith, count))
stop-mask (a ∷ b ∷ []) xs z count long is = absurd (omega (arith, count))
stop-mask (a ∷ b ∷ c ∷ []) xs z count long is = absurd (omega (arith, count))
stop-mask (a ∷ b ∷ c ∷ d ∷ e ∷ more) xs z count long is = absurd (omega (arith, count))

-- a text in two parts
pub split : (stops text : List ℕ) (n : ℕ) → has_stop stops text ≡ (has_stop stops (take n text) || has_stop stops (drop n text))
split stops text n = ap (has_stop stops) (sym (take-append-drop n text)) ∙ list_any-append (is_stop stops) (take n text) (drop n text)

twice : (t u v : Bool) → (t || (u || v)) ≡ ((t || u) || (u || v))
twice true u v = refl
twice false true v = refl
twice false false v = refl

split-after : (stops text : List ℕ) (k m : ℕ)
    → has_stop stops text ≡ (has_stop stops (take (k + m) text) || has_stop stops (drop k text))
split-after stops text k m =
    let first = has_stop stops (take k text) in
    let both : has_stop stops (take (k + m) text) ≡ (first || has_stop stops (take m (drop k text))) =
    ap (has_stop stops) (take-add k m text) ∙ list_any-append (is_stop stops) (take k text) (take m (drop k text)) in
    let rest = split stops (drop k text) m in
    split stops text k ∙ ap (λ t. first || t) rest
    ∙ twice first (has_stop stops (take m (drop k text))) (has_stop stops (drop m (drop k text)))
    ∙ sym (ap₂ (λ t u. t || u) both rest)

-- a text in two parts that overlap
pub split-overlapping : (stops text : List ℕ) (k n : ℕ) → k ≤ n
    → has_stop stops text ≡ (has_stop stops (take n text) || has_stop stops (drop k text))
split-overlapping stops text k n le =
    let all : k + (n - k) ≡ n = omega (arith, le) in
    split-after stops text k (n - k) ∙ ap (λ m. has_stop stops (take m text) || has_stop stops (drop k text)) all

-- so many cells hold no stop exactly if they come before the first
one-more : (t : Bool) (n p : ℕ) (rest : Bool) → not rest ≡ nat_le n p → not (t || rest) ≡ nat_le (suc n) (cond (not t) (1 + p) 0)
one-more true n p rest e = sym (leb-suc-zero n)
one-more false n p rest e = let more : 1 + p ≡ suc p = omega arith in e ∙ sym (ap (nat_le (suc n)) more ∙ leb-suc-suc n p)

none-before : (stops : List ℕ) (n : ℕ) (xs : List ℕ) → n ≤ length xs → not (has_stop stops (take n xs)) ≡ nat_le n (prefix_len (λ b. not (is_stop stops b)) xs)
none-before stops zero xs le = sym (leb-zero (prefix_len (λ b. not (is_stop stops b)) xs))
none-before stops (suc n) [] le = absurd (omega (arith, le))
none-before stops (suc n) (x ∷ xs) le =
    one-more (is_stop stops x) n (prefix_len (λ b. not (is_stop stops b)) xs) (has_stop stops (take n xs)) (none-before stops n xs (omega (arith, le)))

turned : (a b : Bool) → not a ≡ b → a ≡ not b
turned true b e = ap not e
turned false b e = ap not e

-- the least place that isn't below n
not-below : (n m : ℕ) → not (nat_le n m) ≡ nat_lt m n
not-below n m = elim (leb_tells n m) [ inl above ↦ rw above.0 (sym (le-ltb m n above.1)) | inr below ↦ rw below.0 (sym (lt-ltb m n below.1)) ]

pub before-stop : (stops xs : List ℕ) (n : ℕ) → length xs ≡ 16 → n ≤ 16
    → has_stop stops (take n xs) ≡ nat_lt (count_trailing_zeros 64 (mask_l (map (is_stop stops) xs))) n
before-stop stops xs n long le =
    turned (has_stop stops (take n xs)) (nat_le n (count_trailing_zeros 64 (mask_l (map (is_stop stops) xs))))
    (none-before stops n xs (omega (arith, long, le)) ∙ sym (limit (is_stop stops) xs n long le))
    ∙ not-below n (count_trailing_zeros 64 (mask_l (map (is_stop stops) xs)))
