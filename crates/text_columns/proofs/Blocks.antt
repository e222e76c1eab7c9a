-- A block to which a line is appended.
use Rattle.std.proofs.Common.{◌≡◌, ℕ, ◌<◌, ◌^◌, List, [], ◌∷◌, ◌++◌, length, Result, Ok, Err, is_ok, OnOk, if◌then◌else◌, refl, ap, ap₂, subst, sym, ◌∙◌}
use Rattle.text_columns.specs.Chunks.{block_lines, first_line, line_code}
use Rattle.text_columns.specs.Columns.{AreWidths, widened}
use Rattle.text_columns.proofs.Coded.{line-bytes, written-line}
use Rattle.text_columns.proofs.Widening.{widths-more}

pub block-none : (keys : List ℕ) (rows : List (List (List ℕ))) → block_lines keys rows ≡ [] → keys ≡ []
block-none [] rows none = refl
block-none (b ∷ keys) rows none = absurd (cc)

block-some : (keys : List ℕ) (rows : List (List (List ℕ))) → (keys ≡ [] → ⊥) → block_lines keys rows ≡ first_line keys ∷ rows
block-some [] rows some = absurd (some refl)
block-some (b ∷ keys) rows some = refl

-- the first line, where memory may run out
pub first-pushed : {E : Type 0} (r : Result (Unit {0}) E) (keys line new : List ℕ) (rows lines : List (List (List ℕ))) (cells : List (List ℕ)) → keys ≡ [] → rows ≡ []
    → block_lines keys rows ≡ lines → new ≡ (if is_ok r then line else keys) → OnOk r (length line < 2 ^ 64) → line ≡ line_code cells
    → OnOk r (block_lines new rows ≡ lines ++ cells ∷ [])
first-pushed (Ok u) keys line new rows lines cells empty none lines_is new_is fits is =
    ap (λ bytes. block_lines bytes rows) new_is
    ∙ block-some line rows (λ e. line-bytes cells (sym is ∙ e))
    ∙ ap₂ (λ (first : List (List ℕ)) (more : List (List (List ℕ))). first ∷ more) (written-line line cells is fits) none
    ∙ ap (λ (before : List (List (List ℕ))). before ++ cells ∷ []) (ap (λ bytes. block_lines bytes rows) (sym empty) ∙ lines_is)
first-pushed (Err e) keys line new rows lines cells empty none lines_is new_is fits is = tt

-- a later line
module _ (keys : List ℕ) (rows more : List (List (List ℕ))) (cells : List (List ℕ)) (some : keys ≡ [] → ⊥) (is : more ≡ rows ++ cells ∷ []) where
  pub more-pushed : block_lines keys more ≡ block_lines keys rows ++ cells ∷ []
  more-pushed =
      ap (block_lines keys) is ∙ block-some keys (rows ++ cells ∷ []) some
      ∙ ap (λ (lines : List (List (List ℕ))). lines ++ cells ∷ []) (sym (block-some keys rows some))

  pub more-widths : (old new : List ℕ) → AreWidths old (block_lines keys rows) → new ≡ widened cells old → AreWidths new (block_lines keys more)
  more-widths old new are new_is =
      let before : AreWidths old (first_line keys ∷ rows) = subst (AreWidths old) (block-some keys rows some) are in
      subst (AreWidths new) (sym (ap (block_lines keys) is ∙ block-some keys (rows ++ cells ∷ []) some))
      (new_is ∙ ap (widened cells) before ∙ widths-more (first_line keys) rows cells)
