-- The cells of a line, with or without bars.
use Rattle.std.proofs.Common.{◌≡◌, ℕ, ◌<◌, Bool, true, false, cond, List, [], ◌∷◌, length, Option, Some, None, refl, ap, sym, ◌∙◌, arith, inl, inr}
use Rattle.std.proofs.lemmas.Bool.{cases_Bool}
use Rattle.read_xtab_pprint.specs.Cells.{IsCount, cells_in, cells_left, is_barred, second_words, takes_turns}
use Rattle.read_xtab_pprint.specs.Pprint.{between_bars, cells_of, is_bar, some_cells, words_of}

abbrev put_first : List ℕ → Option (List (List ℕ)) → Option (List (List ℕ))
put_first cell found = elim found [ Some cells ↦ Some (cell ∷ cells) | None ↦ None ]

put-first : (cell : List ℕ) (cells : List (List ℕ)) (turns : Bool) → put_first cell (cond turns (Some cells) None) ≡ cond turns (Some (cell ∷ cells)) None
put-first cell cells true = refl
put-first cell cells false = refl

-- the words between bars, if bars and words alternate
between-is : (words : List (List ℕ)) → between_bars words ≡ cond (takes_turns words) (Some (second_words words)) None
between-is [] = refl
between-is (bar ∷ []) = refl
between-is (bar ∷ cell ∷ words) =
    elim (cases_Bool (is_bar bar)) as (λ _. between_bars (bar ∷ cell ∷ words) ≡ cond (takes_turns (bar ∷ cell ∷ words)) (Some (cell ∷ second_words words)) None) [
      | inl it_is ↦
          ap (λ t. cond t (put_first cell (between_bars words)) None) it_is ∙ ap (put_first cell) (between-is words)
          ∙ put-first cell (second_words words) (takes_turns words)
          ∙ sym (ap (λ t. cond (cond t (takes_turns words) false) (Some (cell ∷ second_words words)) None) it_is)
      | inr it_isnt ↦
          ap (λ t. cond t (put_first cell (between_bars words)) None) it_isnt
          ∙ sym (ap (λ t. cond (cond t (takes_turns words) false) (Some (cell ∷ second_words words)) None) it_isnt)
    ]

barred-is : (line : List ℕ) (turns : Bool) → is_barred line ≡ true → takes_turns (words_of line) ≡ turns
    → cells_of line ≡ some_cells (cond turns (Some (second_words (words_of line))) None)
barred-is [] turns barred is = absurd (let e : false ≡ true = barred in cc)
barred-is (b ∷ line) turns barred is =
    let words = words_of (b ∷ line) in
    ap (λ t. cond t (some_cells (between_bars words)) (Some words)) barred
    ∙ ap some_cells (between-is words ∙ ap (λ t. cond t (Some (second_words words)) None) is)

in-barred : (line : List ℕ) → is_barred line ≡ true → cells_in line ≡ second_words (words_of line)
in-barred line barred = ap (λ t. cells_left t (words_of line)) barred

some-is : (cells : List (List ℕ)) → 0 < length cells → some_cells (Some cells) ≡ Some cells
some-is [] some = absurd (omega arith)
some-is (cell ∷ cells) some = refl

none-is : (cells : List (List ℕ)) → length cells ≡ 0 → some_cells (Some cells) ≡ None
none-is [] none = refl
none-is (cell ∷ cells) none = absurd (omega arith)

cells-barred : (line : List ℕ) → is_barred line ≡ true → takes_turns (words_of line) ≡ true → 0 < length (cells_in line) → cells_of line ≡ Some (cells_in line)
cells-barred line barred turns some =
    let inside = in-barred line barred in
    barred-is line true barred turns ∙ some-is (second_words (words_of line)) (omega (arith, ap length inside)) ∙ ap Some (sym inside)

cells-plain : (line : List ℕ) → is_barred line ≡ false → cells_of line ≡ Some (cells_in line)
cells-plain [] plain = refl
cells-plain (b ∷ line) plain =
    let words = words_of (b ∷ line) in
    ap (λ t. cond t (some_cells (between_bars words)) (Some words)) plain ∙ ap (λ t. Some (cells_left t words)) (sym plain)

pub cells-other : (line : List ℕ) → is_barred line ≡ true → takes_turns (words_of line) ≡ false → cells_of line ≡ None
cells-other line barred other = barred-is line false barred other

pub cells-none : (line : List ℕ) → is_barred line ≡ true → takes_turns (words_of line) ≡ true → length (second_words (words_of line)) ≡ 0 → cells_of line ≡ None
cells-none line barred turns none = barred-is line true barred turns ∙ none-is (second_words (words_of line)) none

pub IsCount-plain : (line : List ℕ) (count : ℕ) → is_barred line ≡ false → count ≡ length (words_of line) → IsCount line count
IsCount-plain line count plain is = (cells-plain line plain, is ∙ ap (λ t. length (cells_left t (words_of line))) (sym plain))

pub IsCount-barred : (line : List ℕ) (count : ℕ) → is_barred line ≡ true → takes_turns (words_of line) ≡ true → count ≡ length (second_words (words_of line)) → 0 < count → IsCount line count
IsCount-barred line count barred turns is some =
    let same : count ≡ length (cells_in line) = is ∙ ap length (sym (in-barred line barred)) in
    (cells-barred line barred turns (omega (arith, same)), same)
