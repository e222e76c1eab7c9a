-- A list that is reversed in its place, by swaps from its ends inwards.
use Rattle.std.proofs.Common.{◌≡◌, ℕ, ◌+◌, ◌-◌, ◌/◌, ◌<◌, ◌≤◌, inl, inr, List, length, reverse, get_or, refl, sym, ap, ◌∙◌, arith}
use Rattle.std.specs.List.{swap}
use Rattle.std.proofs.lemmas.Bool.{cases_lt, cases_order}
use Rattle.std.proofs.lemmas.List.{same_lists, get_or-reverse, length-reverse}
use Rattle.std.proofs.lemmas.List.Edits.{length-swap, swapped_from_swap}

module _ {X : Type 0} where
  -- so many elements at each end are those of the list backwards, and those between them are its own
  pub record IsTurned (count : ℕ) (old now : List X) : Type 0 where
    pub long : length now ≡ length old
    pub first : (d : X) (k : ℕ) → k < count → k < length old → get_or now k d ≡ get_or old (length old - 1 - k) d
    pub last : (d : X) (k : ℕ) → length old ≤ k + count → k < length old → get_or now k d ≡ get_or old (length old - 1 - k) d
    pub between : (d : X) (k : ℕ) → count ≤ k → k + count < length old → get_or now k d ≡ get_or old k d

  pub turned-none : (xs : List X) → IsTurned 0 xs xs
  turned-none xs = record {
    long = refl;
    first = λ d k few below. absurd (omega (arith, few));
    last = λ d k high below. absurd (omega (arith, high, below));
    between = λ d k low high. refl;
  }

  -- the next two places are swapped
  pub turned-more : (old now : List X) (count : ℕ) → count < length old / 2 → IsTurned count old now
      → IsTurned (count + 1) old (swap now count (length old - 1 - count))
  turned-more old now count few turned =
      let n = length old in
      let other = n - 1 - count in
      let apart : count < other = omega (arith, few) in
      let after = swap now count other in
      let swapped = λ (d : X). swapped_from_swap now after count other d (omega (arith, turned.long, few)) (omega (arith, turned.long, few)) refl in
      record {
        long = length-swap now count other ∙ turned.long;
        first = λ d k low below. elim (cases_order k count) [
          | inl is ↦ ap (λ m. get_or after m d) is ∙ (swapped d).0 ∙ turned.between d other (omega (arith, apart)) (omega (arith, few))
              ∙ ap (λ m. get_or old (n - 1 - m) d) (sym is)
          | inr (inl before) ↦ (swapped d).2 k (λ e. omega (arith, e, before)) (λ e. omega (arith, e, before, apart)) ∙ turned.first d k before below
          | inr (inr beyond) ↦ absurd (omega (arith, low, beyond))
        ];
        last = λ d k high below. elim (cases_order k other) [
          | inl is ↦ ap (λ m. get_or after m d) is ∙ (swapped d).1 ∙ turned.between d count (omega arith) (omega (arith, few))
              ∙ ap (λ m. get_or old m d) (let same : count ≡ n - 1 - k = omega (arith, is, few) in same)
          | inr (inl before) ↦ absurd (omega (arith, high, before, few))
          | inr (inr beyond) ↦ (swapped d).2 k (λ e. omega (arith, e, beyond, apart)) (λ e. omega (arith, e, beyond)) ∙ turned.last d k (omega (arith, beyond, few)) below
        ];
        between = λ d k low high. (swapped d).2 k (λ e. omega (arith, e, low)) (λ e. omega (arith, e, high, few)) ∙ turned.between d k (omega (arith, low)) (omega (arith, high));
      }

  -- all pairs were swapped
  pub turned-all : (old now : List X) (count : ℕ) → length old / 2 ≤ count → IsTurned count old now → now ≡ reverse old
  turned-all old now count all turned =
      let n = length old in
      same_lists now (reverse old) (turned.long ∙ sym (length-reverse old)) (λ k d below.
      let within : k < n = omega (arith, below, turned.long) in
      let at : get_or now k d ≡ get_or old (n - 1 - k) d =
      elim (cases_lt k count) [
        | inl low ↦ turned.first d k low within
        | inr high ↦ elim (cases_lt (k + count) n) [
          | inl inside ↦ turned.between d k high inside ∙ ap (λ m. get_or old m d) (let same : k ≡ n - 1 - k = omega (arith, all, high, inside) in same)
          | inr beyond ↦ turned.last d k beyond within
        ]
      ] in
      at ∙ sym (get_or-reverse old k d within))
