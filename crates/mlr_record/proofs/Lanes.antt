-- The places of a byte among sixteen that are compared in one step.
use Rattle.std.proofs.Common.{◌≡◌, ℕ, ◌+◌, ◌*◌, ◌<◌, ◌≤◌, Bool, true, false, not, cond, eqb, List, [], ◌∷◌, map, length, get_or, replicate, refl, sym, ap, ap₂, subst, ◌∙◌, arith}
use Rattle.std.proofs.lemmas.List.Sums.{prefix_len_passes, prefix_len_stops, prefix_len-le-length}
use Rattle.std.proofs.lemmas.Simd.{zip2_splat, trailing_mask_l, leading_from_mask_l, map-map, length-chunk, get_or-chunk}
use Rattle.std.proofs.lemmas.Bool.{true≢false}
use Rattle.std.specs.List.{prefix_len}
use Rattle.memchr.specs.Find.{NoneBefore, Passes, is_byte}
use lib.Count.{count_trailing_zeros}
use lib.Lanes.{zip2, mask_l, top, chunk}

-- the lane of a comparison
abbrev pub hit : ℕ → ℕ → ℕ
hit a b = cond (eqb a b) 255 0

top-hit : (t : Bool) → top 7 (cond t 255 0) ≡ t
top-hit true = refl
top-hit false = refl

-- the highest bits of the lanes tell where the byte is
pub each-hit : (byte : ℕ) (lanes : List ℕ) → map (λ x. top 7 (hit x byte)) lanes ≡ map (is_byte byte) lanes
each-hit byte [] = refl
each-hit byte (x ∷ lanes) = ap₂ (λ (t : Bool) rest. t ∷ rest) (top-hit (eqb x byte)) (each-hit byte lanes)

pub equal-mask : (byte : ℕ) (lanes : List ℕ) → length lanes ≡ 16
    → mask_l (map (top 7) (zip2 hit lanes (replicate 16 byte))) ≡ mask_l (map (is_byte byte) lanes)
equal-mask byte lanes sixteen =
    ap mask_l (ap (map (top 7)) (zip2_splat hit lanes 16 byte sixteen) ∙ map-map (top 7) (λ x. hit x byte) lanes ∙ each-hit byte lanes)

not-passed : (t : Bool) → not t ≡ true → t ≡ true → ⊥
not-passed true fails passes = true≢false (sym fails)
not-passed false fails passes = true≢false (sym passes)

not-not : (t : Bool) → not t ≡ false → t ≡ true
not-not true e = refl
not-not false e = absurd (true≢false e)

-- no bit is set where no lane passes
all-fail : (p : ℕ → Bool) (lanes : List ℕ) → prefix_len (λ x. not (p x)) lanes ≡ length lanes → mask_l (map p lanes) ≡ 0
all-fail p [] e = refl
all-fail p (x ∷ lanes) e = fails (p x) (prefix_len (λ y. not (p y)) lanes) (length lanes) (mask_l (map p lanes)) (prefix_len-le-length (λ y. not (p y)) lanes) (omega arith) (all-fail p lanes)
  where
    fails : (t : Bool) (n l m : ℕ) → n ≤ l → cond (not t) (1 + n) 0 ≡ 1 + l → (n ≡ l → m ≡ 0) → cond t 1 0 + 2 * m ≡ 0
    fails true n l m le e rest = absurd (omega arith)
    fails false n l m le e rest = let none = rest (omega arith) in omega arith

module _ (p : ℕ → Bool) (text : List ℕ) (long : 16 ≤ length text) where
  lanes-long : length (chunk 0 16 text) ≡ 16
  lanes-long = length-chunk 0 16 text long

  lane : (k : ℕ) → k < 16 → get_or (chunk 0 16 text) k 0 ≡ get_or text k 0
  lane k below = let same : 0 + k ≡ k = omega arith in get_or-chunk 0 16 text k 0 below ∙ ap (λ n. get_or text n 0) same

  -- the lowest bit that is set is the first place
  pub first-lane : 0 < mask_l (map p (chunk 0 16 text))
      → NoneBefore (Passes p text) 0 (length text) (count_trailing_zeros 64 (mask_l (map p (chunk 0 16 text))))
      × Passes p text (count_trailing_zeros 64 (mask_l (map p (chunk 0 16 text))))
  first-lane some =
      let lanes = chunk 0 16 text in
      let place = prefix_len (λ x. not (p x)) lanes in
      let is_place = trailing_mask_l p 64 lanes (omega (arith, lanes-long)) some in
      let within : place < 16 = within-lanes place (prefix_len-le-length (λ x. not (p x)) lanes) (λ e. all-fail p lanes e) in
      subst (λ k. NoneBefore (Passes p text) 0 (length text) k × Passes p text k) (sym is_place) (
        record {
          low = omega arith;
          high = omega (arith, within, long);
          before = λ j low below passes. not-passed (p (get_or lanes j 0)) (prefix_len_passes (λ x. not (p x)) lanes j 0 below) (ap p (lane j (omega (arith, below, within))) ∙ passes);
        },
        ap p (sym (lane place within)) ∙ not-not (p (get_or lanes place 0)) (prefix_len_stops (λ x. not (p x)) lanes 0 (omega (arith, within, lanes-long))),
      )
    where
      within-lanes : (place : ℕ) → place ≤ length (chunk 0 16 text) → (place ≡ length (chunk 0 16 text) → mask_l (map p (chunk 0 16 text)) ≡ 0) → place < 16
      within-lanes place le none =
          let some_pass : place ≡ length (chunk 0 16 text) → ⊥ = λ e. omega (arith, none e, some) in
          omega (arith, le, some_pass, lanes-long)

  -- where no bit is set, no place has the byte
  pub no-lane : mask_l (map p (chunk 0 16 text)) ≡ 0 → (k : ℕ) → k < 16 → Passes p text k → ⊥
  no-lane none k below passes =
      let lanes = chunk 0 16 text in
      let all = leading_from_mask_l p lanes none in
      not-passed (p (get_or lanes k 0)) (prefix_len_passes (λ x. not (p x)) lanes k 0 (omega (arith, all, lanes-long, below))) (ap p (lane k below) ∙ passes)
