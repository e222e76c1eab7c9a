-- The first separator of one byte, among lanes that are compared in one step.
use Rattle.std.proofs.Common.{◌≡◌, ℕ, zero, suc, ◌+◌, ◌-◌, ◌*◌, ◌/◌, ◌%◌, ◌^◌, ◌<◌, ◌≤◌, ◌&&◌, Bool, true, false, not, cond, eqb, List, [], ◌∷◌, map, length, take, drop, replicate, Option, Some, None, refl, sym, ap, ap₂, subst, ◌∙◌, arith, length-drop}
use native.Mathlib.Nat.{zero-div, div-one, div-div-eq-div-mul, two-pow-succ}
use lib.Count.{count_trailing_zeros}
use lib.Lanes.{zip2, mask_l, top, chunk}
use Rattle.std.specs.List.{prefix_len}
use Rattle.std.specs.Option.{option_map}
use Rattle.std.proofs.lemmas.List.{length-map, drop-map, drop-drop, take_all}
use Rattle.std.proofs.lemmas.Simd.{zip2_splat, trailing_mask_l, mask_l-mod, map-map}
use Rattle.memchr.specs.Find.{is_byte}
use Rattle.mlr_record.proofs.Lanes.{hit, each-hit}
use Rattle.mlr_spec.specs.Split.{place_in}

half : (bit : Bool) (m : ℕ) → (cond bit 1 0 + 2 * m) / 2 ≡ m
half true m = omega arith
half false m = omega arith

-- the mask without its lowest bits is that of the further lanes
further : (n : ℕ) (bits : List Bool) → mask_l bits / 2 ^ n ≡ mask_l (drop n bits)
further zero bits = div-one (mask_l bits)
further (suc n) [] = zero-div (2 ^ suc n)
further (suc n) (bit ∷ bits) =
    ap (λ d. (cond bit 1 0 + 2 * mask_l bits) / d) (two-pow-succ n ∙ (let twice : 2 ^ n + 2 ^ n ≡ 2 * 2 ^ n = omega arith in twice))
    ∙ sym (div-div-eq-div-mul (cond bit 1 0 + 2 * mask_l bits) 2 (2 ^ n))
    ∙ ap (λ m. m / 2 ^ n) (half bit (mask_l bits))
    ∙ further n bits

module _ (byte : ℕ) where
  here : (text : List ℕ) (b : ℕ) → place_in (byte ∷ []) (b ∷ text) ≡ cond (eqb b byte) (Some 0) (option_map (λ place. place + 1) (place_in (byte ∷ []) text))
  here text b = ap (λ t. cond t (Some 0) (option_map (λ place. place + 1) (place_in (byte ∷ []) text))) (alone (eqb b byte))
    where
      alone : (t : Bool) → (t && true) ≡ t
      alone true = refl
      alone false = refl

  -- no lane has the byte where no bit is set
  none-in : (lanes : List ℕ) → mask_l (map (is_byte byte) lanes) ≡ 0 → place_in (byte ∷ []) lanes ≡ None
  none-in [] none = refl
  none-in (b ∷ lanes) none = here lanes b ∙ step (eqb b byte) (mask_l (map (is_byte byte) lanes)) (place_in (byte ∷ []) lanes) (none-in lanes) none
    where
      step : (t : Bool) (m : ℕ) (rest : Option ℕ) → (m ≡ 0 → rest ≡ None) → cond t 1 0 + 2 * m ≡ 0 → cond t (Some 0) (option_map (λ place. place + 1) rest) ≡ None
      step true m rest later none = absurd (omega (arith, none))
      step false m rest later none = ap (option_map (λ place. place + 1)) (later (omega (arith, none)))

  -- where a bit is set, the first lane with the byte follows those without it
  some-in : (lanes : List ℕ) → 0 < mask_l (map (is_byte byte) lanes) → place_in (byte ∷ []) lanes ≡ Some (prefix_len (λ b. not (is_byte byte b)) lanes)
  some-in [] some = absurd (omega (arith, some))
  some-in (b ∷ lanes) some =
      here lanes b ∙ step (eqb b byte) (mask_l (map (is_byte byte) lanes)) (prefix_len (λ x. not (is_byte byte x)) lanes) (place_in (byte ∷ []) lanes) (some-in lanes) some
    where
      step : (t : Bool) (m n : ℕ) (rest : Option ℕ) → (0 < m → rest ≡ Some n) → 0 < cond t 1 0 + 2 * m
          → cond t (Some 0) (option_map (λ place. place + 1) rest) ≡ Some (cond (not t) (1 + n) 0)
      step true m n rest later some = refl
      step false m n rest later some = ap (option_map (λ place. place + 1)) (later (omega (arith, some))) ∙ ap Some (let e : n + 1 ≡ 1 + n = omega arith in e)

  module _ (lanes : List ℕ) (skipped : ℕ) (sixteen : length lanes ≡ 16) where
    -- what is computed of the lanes
    abbrev pub word : ℕ
    word = mask_l (map (top 7) (zip2 hit lanes (replicate 16 byte))) % 2 ^ 64 / 2 ^ skipped

    word-is : word ≡ mask_l (map (is_byte byte) (drop skipped lanes))
    word-is =
        ap (λ n. n % 2 ^ 64 / 2 ^ skipped) (ap mask_l (ap (map (top 7)) (zip2_splat hit lanes 16 byte sixteen) ∙ map-map (top 7) (λ x. hit x byte) lanes ∙ each-hit byte lanes))
        ∙ ap (λ n. n / 2 ^ skipped) (mask_l-mod (map (is_byte byte) lanes) 64 (omega (arith, length-map lanes (is_byte byte), sixteen)))
        ∙ further skipped (map (is_byte byte) lanes)
        ∙ ap mask_l (drop-map (is_byte byte) skipped lanes)

    pub none-among : word ≡ 0 → None ≡ place_in (byte ∷ []) (drop skipped lanes)
    none-among none = sym (none-in (drop skipped lanes) (sym word-is ∙ none))

    pub some-among : 0 < word → Some (count_trailing_zeros 64 word) ≡ place_in (byte ∷ []) (drop skipped lanes)
    some-among some =
        let rest = drop skipped lanes in
        ap (λ n. Some (count_trailing_zeros 64 n)) word-is
        ∙ ap Some (trailing_mask_l (is_byte byte) 64 rest (omega (arith, length-drop skipped lanes, sixteen)) (subst (λ n. 0 < n) word-is some))
        ∙ sym (some-in rest (subst (λ n. 0 < n) word-is some))

-- the last sixteen bytes of a line without those before a place
pub last-lanes : (line : List ℕ) (from : ℕ) → 16 ≤ length line → from ≤ length line → length line - from < 16
    → drop (16 - (length line - from)) (chunk (length line - 16) 16 line) ≡ drop from line
last-lanes line from long within near =
    let start = length line - 16 in
    ap (drop (16 - (length line - from))) (take_all 16 (drop start line) (omega (arith, length-drop start line, long)))
    ∙ drop-drop (16 - (length line - from)) start line
    ∙ ap (λ n. drop n line) (let e : start + (16 - (length line - from)) ≡ from = omega (arith, long, within, near) in e)

-- the rest of a line from a place on, as a slice reads it
pub rest-is : (line : List ℕ) (from : ℕ) → take (length line - from) (drop from line) ≡ drop from line
rest-is line from = take_all (length line - from) (drop from line) (omega (arith, length-drop from line))
