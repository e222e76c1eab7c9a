-- Marks of names, as more names are marked.
use Rattle.std.proofs.Common.{◌≡◌, ℕ, ◌*◌, ◌^◌, ◌%◌, ◌<◌, true, false, ◌||◌, List, [], ◌∷◌, ◌++◌, ap, sym, ◌∙◌, arith, inl, inr}
use Rattle.std.specs.Int.{bit_at}
use Rattle.std.specs.Int.RustNames.{bit_or}
use Rattle.std.specs.Str.{bytes_eq}
use Rattle.std.proofs.lemmas.Bool.{cases_Bool, true≢false}
use Rattle.std.proofs.lemmas.List.Folds.{list_any-append}
use Rattle.std.proofs.lemmas.Nat.Bits.{bit_at-lt, bit_at_or, bit_at_set_same}
use Rattle.std.proofs.lemmas.Slice.Eq.{bytes_eq-Decides}
use Rattle.mlr_event.specs.Reading.{is_among}
use Rattle.mlr_fields.specs.Marks.{mark_of}
use mir.Syntax.{w64}

pub mark-few : (name : List ℕ) → mark_of name < 64
mark-few [] = omega arith
mark-few (b ∷ rest) = omega arith

-- a bit that is set stays set
set-stays : (bits more i : ℕ) → bit_at bits i ≡ 1 → bit_at (bit_or bits more) i ≡ 1
set-stays bits more i is = omega (arith, bit_at_or bits more i, is, bit_at-lt more i)

-- the last one of the names is marked, and those before it stay marked
pub marked-pushed : (bits : ℕ) (names : List (List ℕ)) (new name : List ℕ) → ((name : List ℕ) → is_among names name ≡ true → bit_at bits (mark_of name) ≡ 1) → is_among (names ++ new ∷ []) name ≡ true
    → bit_at (bit_or bits (1 * 2 ^ mark_of new % 2 ^ 64)) (mark_of name) ≡ 1
marked-pushed bits names new name marked there =
    let more = 1 * 2 ^ mark_of new % 2 ^ 64 in
    elim (cases_Bool (is_among names name)) as (λ _. bit_at (bit_or bits more) (mark_of name) ≡ 1) [
      | inl old ↦ set-stays bits more (mark_of name) (marked name old)
      | inr other ↦
          let here : (bytes_eq name new || false) ≡ true = sym (list_any-append (bytes_eq name) names (new ∷ []) ∙ ap (λ t. t || (bytes_eq name new || false)) other) ∙ there in
          let same : bytes_eq name new ≡ true = elim (cases_Bool (bytes_eq name new)) as (λ _. bytes_eq name new ≡ true) [
            | inl is ↦ is
            | inr isnt ↦ absurd (true≢false (sym here ∙ ap (λ t. t || false) isnt))
          ] in
          ap (λ n. bit_at (bit_or bits more) (mark_of n)) ((bytes_eq-Decides name new).0 same) ∙ bit_at_set_same w64 bits (mark_of new) (mark-few new)
    ]
