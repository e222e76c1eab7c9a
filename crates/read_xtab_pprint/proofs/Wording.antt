-- The words of a text, found one by one, are those of the definition.
use Rattle.std.proofs.Common.{◌≡◌, ℕ, suc, ◌+◌, ◌<◌, Bool, true, false, cond, not, eqb, List, [], ◌∷◌, length, take, drop, refl, ap, ap₂, sym, subst, ◌∙◌, arith, inl, inr, length-drop}
use Rattle.std.specs.List.{before_first, filter, onto_first, position_or_len, prefix_len, slice_split}
use Rattle.std.proofs.lemmas.Bool.{cases_Bool}
use Rattle.std.proofs.lemmas.Bool.Decides.{nat_tests}
use Rattle.std.proofs.lemmas.List.{length-take-le}
use Rattle.std.proofs.lemmas.List.Splits.{slice_split-cons_yes, slice_split-cons_no}
use Rattle.std.proofs.lemmas.List.Sums.{prefix_len-le-length}
use Rattle.read_xtab_pprint.specs.Pprint.{words_of}
use Rattle.read_xtab_pprint.specs.Words.{IsWordCut}
use Rattle.read_xtab_pprint.specs.Xtab.{is_space, without_spaces}

abbrev is_word : List ℕ → Bool
is_word word = not (eqb (length word) 0)

one-more : (n : ℕ) → 1 + n ≡ suc n
one-more n = omega arith

spaces-yes : (b : ℕ) (text : List ℕ) → is_space b ≡ true → without_spaces (b ∷ text) ≡ without_spaces text
spaces-yes b text it_is = ap (λ t. drop (cond t (1 + prefix_len is_space text) 0) (b ∷ text)) it_is ∙ ap (λ n. drop n (b ∷ text)) (one-more (prefix_len is_space text))

spaces-no : (b : ℕ) (text : List ℕ) → is_space b ≡ false → without_spaces (b ∷ text) ≡ b ∷ text
spaces-no b text it_isnt = ap (λ t. drop (cond t (1 + prefix_len is_space text) 0) (b ∷ text)) it_isnt

place-yes : (b : ℕ) (text : List ℕ) → is_space b ≡ true → position_or_len is_space (b ∷ text) ≡ 0
place-yes b text it_is = ap (λ t. cond (not t) (1 + position_or_len is_space text) 0) it_is

place-no : (b : ℕ) (text : List ℕ) → is_space b ≡ false → position_or_len is_space (b ∷ text) ≡ suc (position_or_len is_space text)
place-no b text it_isnt = ap (λ t. cond (not t) (1 + position_or_len is_space text) 0) it_isnt ∙ one-more (position_or_len is_space text)

pub length-word : (text : List ℕ) → length (before_first is_space text) ≡ position_or_len is_space text
length-word text = length-take-le (position_or_len is_space text) text (prefix_len-le-length (λ b. not (is_space b)) text)

-- a text that is cut at its first space
record Split (text : List ℕ) : Type 0 where
  tail : List (List ℕ)
  parts : slice_split is_space text ≡ before_first is_space text ∷ tail
  words : filter is_word tail ≡ words_of (drop (position_or_len is_space text) text)

split-of : (text : List ℕ) → Split text
split-of [] = record { tail = []; parts = refl; words = refl }
split-of (b ∷ text) =
    elim (cases_Bool (is_space b)) as (λ _. Split (b ∷ text)) [
      | inl it_is ↦ record {
        tail = slice_split is_space text;
        parts = slice_split-cons_yes is_space b text it_is ∙ ap (λ n. take n (b ∷ text) ∷ slice_split is_space text) (sym (place-yes b text it_is));
        words = sym (ap (λ n. words_of (drop n (b ∷ text))) (place-yes b text it_is) ∙ ap (filter is_word) (slice_split-cons_yes is_space b text it_is));
      }
      | inr it_isnt ↦
          let later = split-of text in record {
            tail = later.tail;
            parts = slice_split-cons_no is_space b text it_isnt ∙ ap (onto_first b) later.parts ∙ ap (λ n. take n (b ∷ text) ∷ later.tail) (sym (place-no b text it_isnt));
            words = later.words ∙ ap (λ n. words_of (drop n (b ∷ text))) (sym (place-no b text it_isnt));
          }
    ]

never-empty : (b : ℕ) (word : List ℕ) → eqb (length (b ∷ word)) 0 ≡ false
never-empty b word = grind (arith, nat_tests)

word-kept : (b : ℕ) (word : List ℕ) (more : List (List ℕ)) → cond (is_word (b ∷ word)) ((b ∷ word) ∷ more) more ≡ (b ∷ word) ∷ more
word-kept b word more = ap (λ t. cond (not t) ((b ∷ word) ∷ more) more) (never-empty b word)

-- a text that doesn't begin with a space
cut-here : (b : ℕ) (text : List ℕ) → is_space b ≡ false → IsWordCut (b ∷ text) (before_first is_space (b ∷ text)) (drop (length (before_first is_space (b ∷ text))) (b ∷ text))
cut-here b text it_isnt =
    let all = split-of (b ∷ text) in
    let word = before_first is_space (b ∷ text) in
    let later = filter is_word all.tail in
    let word-is : word ≡ b ∷ before_first is_space text = ap (λ n. take n (b ∷ text)) (place-no b text it_isnt) in (
      ap (filter is_word) all.parts ∙ ap (λ w. cond (is_word w) (w ∷ later) later) word-is ∙ word-kept b (before_first is_space text) later
          ∙ ap₂ (λ w words. w ∷ words) (sym word-is) (all.words ∙ ap (λ n. words_of (drop n (b ∷ text))) (sym (length-word (b ∷ text)))),
      omega (arith, length-drop (length word) (b ∷ text), ap length word-is),
    )

skip : (b : ℕ) (text : List ℕ) → is_space b ≡ true → words_of (b ∷ text) ≡ words_of text
skip b text it_is = ap (filter is_word) (slice_split-cons_yes is_space b text it_is)

cut-at : (text prefix : List ℕ) → without_spaces text ≡ prefix → 0 < length prefix → IsWordCut text (before_first is_space prefix) (drop (length (before_first is_space prefix)) prefix)
cut-at [] prefix is some = absurd (omega (arith, ap length is))
cut-at (b ∷ text) prefix is some =
    elim (cases_Bool (is_space b)) as (λ _. IsWordCut (b ∷ text) (before_first is_space prefix) (drop (length (before_first is_space prefix)) prefix)) [
      | inl it_is ↦ let later = cut-at text prefix (sym (spaces-yes b text it_is) ∙ is) some in (skip b text it_is ∙ later.0, omega (arith, later.1))
      | inr it_isnt ↦
          subst (λ f. IsWordCut (b ∷ text) (before_first is_space f) (drop (length (before_first is_space f)) f)) (sym (spaces-no b text it_isnt) ∙ is) (cut-here b text it_isnt)
    ]

IsWordCut-from : (text prefix word rest : List ℕ) → prefix ≡ without_spaces text → 0 < length prefix → word ≡ before_first is_space prefix → rest ≡ drop (length word) prefix → IsWordCut text word rest
IsWordCut-from text prefix word rest is some word-is rest-is =
    subst (λ r. IsWordCut text word r) (sym rest-is)
    (subst (λ w. IsWordCut text w (drop (length w) prefix)) (sym word-is) (cut-at text prefix (sym is) some))

no-words : (text : List ℕ) → without_spaces text ≡ [] → words_of text ≡ []
no-words [] is = refl
no-words (b ∷ text) is =
    elim (cases_Bool (is_space b)) as (λ _. words_of (b ∷ text) ≡ []) [
      | inl it_is ↦ skip b text it_is ∙ no-words text (sym (spaces-yes b text it_is) ∙ is)
      | inr it_isnt ↦ absurd (let e : b ∷ text ≡ [] = sym (spaces-no b text it_isnt) ∙ is in cc)
    ]

pub IsWordCut-prefix : (text prefix word rest : List ℕ) (empty : Bool) → prefix ≡ without_spaces text → empty ≡ eqb (length prefix) 0 → empty ≡ false → word ≡ before_first is_space prefix → rest ≡ drop (length word) prefix → IsWordCut text word rest
IsWordCut-prefix text [] word rest empty is test some word-is rest-is = absurd (let e : true ≡ false = sym test ∙ some in cc)
IsWordCut-prefix text (b ∷ prefix) word rest empty is test some word-is rest-is = IsWordCut-from text (b ∷ prefix) word rest is (omega arith) word-is rest-is

pub no-words-prefix : (text prefix : List ℕ) (empty : Bool) → prefix ≡ without_spaces text → empty ≡ eqb (length prefix) 0 → empty ≡ true → words_of text ≡ []
no-words-prefix text [] empty is test none = no-words text (sym is)
no-words-prefix text (b ∷ prefix) empty is test none = absurd (let e : true ≡ false = sym none ∙ test ∙ never-empty b prefix in cc)
