-- Blanks between tokens.
use Rattle.std.proofs.Common.{◌≡◌, ℕ, ◌==◌, ◌≤◌, true, false, List, [], ◌∷◌, length, drop, Some, None, cond, refl, ap, sym, ◌∙◌, inl, inr}
use Rattle.std.specs.List.{prefix_len, take_while}
use Rattle.std.proofs.lemmas.Bool.{cases_Bool, ne_eqb, true≢false}
use Rattle.mlr_spec.specs.JsonTokens.{blank, mark, word, quote, found, bad, is_blank, is_word_byte, mark_of, lexeme_unmarked, lexeme_outside, tokens_outside}
use Rattle.mlr_json.specs.Readable.{plain}
use Rattle.mlr_json.specs.Reading.{tokens_left}
use Rattle.mlr_json.proofs.Left.{left-found}

blank-unmarked : (b : ℕ) → is_blank b ≡ true → mark_of b ≡ None
blank-unmarked b h = rw (other 123 refl, other 125 refl, other 91 refl, other 93 refl, other 58 refl, other 44 refl) refl
  where
    other : (k : ℕ) → is_blank k ≡ false → (b == k) ≡ false
    other k apart = ne_eqb b k (λ e. true≢false (sym h ∙ ap is_blank e ∙ apart))

pub blank-lexeme : (b : ℕ) (text : List ℕ) → is_blank b ≡ true → lexeme_outside (b ∷ text) ≡ found blank (prefix_len is_blank (b ∷ text))
unfolding lexeme_outside
blank-lexeme b text h =
    ap (λ m. elim m [ Some k ↦ found (mark k) 1 | None ↦ lexeme_unmarked (b ∷ text) ]) (blank-unmarked b h)
    ∙ ap (λ t. cond t (found blank (prefix_len is_blank (b ∷ text))) (cond (b == 34) (found quote 1) (cond (is_word_byte b) (found (word (take_while is_word_byte (b ∷ text))) (prefix_len is_word_byte (b ∷ text))) (bad 0)))) h

-- a text has the tokens of what follows its first blanks
pub blanks-skipped : (end : ℕ) (text : List ℕ) → length text ≤ end → tokens_left end (drop (prefix_len is_blank text) text) ≡ tokens_left end text
blanks-skipped end [] fits = refl
blanks-skipped end (b ∷ text) fits =
    elim (cases_Bool (is_blank b)) as (λ _. tokens_left end (drop (prefix_len is_blank (b ∷ text)) (b ∷ text)) ≡ tokens_left end (b ∷ text)) [
      | inl y ↦ sym (ap (λ x. tokens_outside plain x.lexemes x.stop) (left-found false end (b ∷ text) blank (prefix_len is_blank (b ∷ text)) fits (blank-lexeme b text y)))
      | inr n ↦ ap (λ k. tokens_left end (drop k (b ∷ text))) (none b text n)
    ]
  where
    none : (b : ℕ) (text : List ℕ) → is_blank b ≡ false → prefix_len is_blank (b ∷ text) ≡ 0
    none b text n = rw n refl
