-- Texts in quotes, as they are written and read.
use Rattle.std.proofs.Common.{◌≡◌, ℕ, eqb, true, false, List, [], ◌∷◌, ◌++◌, Some, None, refl, ap, ap₂, sym, ◌∙◌, inl, inr}
use Rattle.std.specs.List.{flat_map}
use Rattle.std.proofs.lemmas.Bool.{cases_Bool, eqb-true}
use Rattle.mlr_lines.specs.Lines.{without_return}
use Rattle.read_csv.specs.Csv.{quoted_at, with_byte}
use Rattle.read_csv.proofs.Opening.{quoted-other}
use Rattle.writers.specs.Csv.{csv_escaped}
use Rattle.mlr_laws.proofs.Returns.{return-last, return-more, return-one}

quoted-twice : (text : List ℕ) → quoted_at (34 ∷ 34 ∷ text) ≡ with_byte 34 (quoted_at text)
quoted-twice text = refl

abbrev pub escaped : List ℕ → List ℕ
escaped text = flat_map csv_escaped text

escaped-quote : (b : ℕ) (text : List ℕ) → eqb b 34 ≡ true → escaped (b ∷ text) ≡ 34 ∷ 34 ∷ escaped text
escaped-quote b text is = rw is refl

escaped-other : (b : ℕ) (text : List ℕ) → eqb b 34 ≡ false → escaped (b ∷ text) ≡ b ∷ escaped text
escaped-other b text isnt = rw isnt refl

-- the content of quotes, and what follows the closing quote
module _ (more : List ℕ) (closes : quoted_at (34 ∷ more) ≡ Some (record { content = []; following = more })) where
  pub quoted-again : (text : List ℕ) → quoted_at (escaped text ++ 34 ∷ more) ≡ Some (record { content = text; following = more })
  quoted-again [] = closes
  quoted-again (b ∷ text) =
      let rest = escaped text ++ 34 ∷ more in
      elim (cases_Bool (eqb b 34)) as (λ _. quoted_at (escaped (b ∷ text) ++ 34 ∷ more) ≡ Some (record { content = b ∷ text; following = more })) [
        | inl is ↦
            ap (λ e. quoted_at (e ++ 34 ∷ more)) (escaped-quote b text is) ∙ quoted-twice rest ∙ ap (with_byte 34) (quoted-again text)
            ∙ ap (λ c. Some (record { content = c ∷ text; following = more })) (sym (eqb-true b 34 is))
        | inr isnt ↦ ap (λ e. quoted_at (e ++ 34 ∷ more)) (escaped-other b text isnt) ∙ quoted-other b rest isnt ∙ ap (with_byte b) (quoted-again text)
      ]

pub closes-last : quoted_at (34 ∷ []) ≡ Some (record { content = []; following = [] })
closes-last = refl

pub closes-before : (b : ℕ) (more : List ℕ) → eqb b 34 ≡ false → quoted_at (34 ∷ b ∷ more) ≡ Some (record { content = []; following = b ∷ more })
closes-before b more isnt = rw isnt refl

-- two lists that are equal have equal first elements and equal rests
pub same-first : {A : Type 0} (x y : A) (xs ys : List A) → x ∷ xs ≡ y ∷ ys → x ≡ y
same-first x y xs ys is = cc

pub same-rest : {A : Type 0} (x y : A) (xs ys : List A) → x ∷ xs ≡ y ∷ ys → xs ≡ ys
same-rest x y xs ys is = cc

-- up to an LF the quotes stay open, and a CR before it doesn't close them
stays-open : (b : ℕ) (before : List ℕ) → quoted_at (without_return before) ≡ None → eqb b 34 ≡ false → quoted_at (without_return (b ∷ before)) ≡ None
stays-open b [] none isnt =
    elim (cases_Bool (eqb b 13)) as (λ _. quoted_at (without_return (b ∷ [])) ≡ None) [
      | inl is ↦ ap quoted_at (return-last b is)
      | inr other ↦ ap quoted_at (return-one b other) ∙ quoted-other b [] isnt
    ]
stays-open b (c ∷ before) none isnt = ap quoted_at (return-more b c before) ∙ quoted-other b (without_return (c ∷ before)) isnt ∙ ap (with_byte b) none

twice-open : (before : List ℕ) → quoted_at (without_return before) ≡ None → quoted_at (without_return (34 ∷ 34 ∷ before)) ≡ None
twice-open [] none = refl
twice-open (c ∷ before) none =
    ap quoted_at (return-more 34 34 (c ∷ before) ∙ ap (λ t. 34 ∷ t) (return-more 34 c before)) ∙ quoted-twice (without_return (c ∷ before)) ∙ ap (with_byte 34) none

pub open-until : (text before following : List ℕ) → escaped text ++ 34 ∷ [] ≡ before ++ 10 ∷ following → quoted_at (without_return before) ≡ None
open-until [] [] following is = absurd (let e : 34 ≡ 10 = same-first 34 10 [] following is in cc)
open-until [] (b ∷ before) following is = absurd (nothing before (same-rest 34 b [] (before ++ 10 ∷ following) is))
  where
    nothing : (before : List ℕ) → [] ≡ before ++ 10 ∷ following → ⊥
    nothing [] e = cc
    nothing (c ∷ before) e = cc
open-until (a ∷ text) before following is =
    elim (cases_Bool (eqb a 34)) as (λ _. quoted_at (without_return before) ≡ None) [
      | inl quote ↦ twice before (sym (ap (λ e. e ++ 34 ∷ []) (escaped-quote a text quote)) ∙ is) (open-until text)
      | inr isnt ↦ other before (sym (ap (λ e. e ++ 34 ∷ []) (escaped-other a text isnt)) ∙ is) isnt (open-until text)
    ]
  where
    Later : Type 0
    Later = (before following : List ℕ) → escaped text ++ 34 ∷ [] ≡ before ++ 10 ∷ following → quoted_at (without_return before) ≡ None

    twice : (before : List ℕ) → 34 ∷ 34 ∷ (escaped text ++ 34 ∷ []) ≡ before ++ 10 ∷ following → Later → quoted_at (without_return before) ≡ None
    twice [] e later = absurd (let f : 34 ≡ 10 = same-first 34 10 (34 ∷ (escaped text ++ 34 ∷ [])) following e in cc)
    twice (b ∷ []) e later = absurd (let f : 34 ≡ 10 = same-first 34 10 (escaped text ++ 34 ∷ []) following (same-rest 34 b (34 ∷ (escaped text ++ 34 ∷ [])) (10 ∷ following) e) in cc)
    twice (b ∷ c ∷ before) e later =
        let rest = same-rest 34 b (34 ∷ (escaped text ++ 34 ∷ [])) (c ∷ before ++ 10 ∷ following) e in
        let first : 34 ≡ b = same-first 34 b (34 ∷ (escaped text ++ 34 ∷ [])) (c ∷ before ++ 10 ∷ following) e in
        let second : 34 ≡ c = same-first 34 c (escaped text ++ 34 ∷ []) (before ++ 10 ∷ following) rest in
        ap₂ (λ x y. quoted_at (without_return (x ∷ y ∷ before))) (sym first) (sym second)
        ∙ twice-open before (later before following (same-rest 34 c (escaped text ++ 34 ∷ []) (before ++ 10 ∷ following) rest))

    other : (before : List ℕ) → a ∷ (escaped text ++ 34 ∷ []) ≡ before ++ 10 ∷ following → eqb a 34 ≡ false → Later → quoted_at (without_return before) ≡ None
    other [] e isnt later = refl
    other (b ∷ before) e isnt later =
        let first : a ≡ b = same-first a b (escaped text ++ 34 ∷ []) (before ++ 10 ∷ following) e in
        ap (λ x. quoted_at (without_return (x ∷ before))) (sym first)
        ∙ stays-open a before (later before following (same-rest a b (escaped text ++ 34 ∷ []) (before ++ 10 ∷ following) e)) isnt
