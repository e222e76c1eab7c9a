-- Texts without a byte: split at it, and cut into lines.
use Rattle.std.proofs.Common.{◌≡◌, ℕ, suc, ◌+◌, eqb, Bool, true, false, cond, not, ◌&&◌, List, [], ◌∷◌, ◌++◌, length, drop, Option, Some, None, is_some, refl, ap, ap₂, sym, ◌∙◌, append_assoc, arith, inl, inr}
use Rattle.std.specs.List.{flat_map, list_all}
use Rattle.std.specs.Option.{option_map}
use Rattle.std.proofs.lemmas.Bool.{cases_Bool, and_parts, and_from, not-true, true≢false}
use Rattle.std.proofs.Math.Seq.{take-append_seam}
use Rattle.mlr_spec.specs.Json.{joined}
use Rattle.mlr_spec.specs.Split.{place_in, split_by}
use Rattle.mlr_spec.proofs.Splitting.{split_by-none, split_by-some}
use Rattle.mlr_lines.specs.Lines.{begun_after, ended_after}
use Rattle.mlr_lines.proofs.Cutting.{begun-append, ended-append}

-- whether no byte of a text is this one
abbrev pub lacks : ℕ → List ℕ → Bool
lacks c text = list_all (λ b. not (eqb b c)) text

pub lacks-append : (c : ℕ) (text more : List ℕ) → lacks c text ≡ true → lacks c more ≡ true → lacks c (text ++ more) ≡ true
lacks-append c [] more here later = later
lacks-append c (b ∷ text) more here later =
    let parts = and_parts (not (eqb b c)) (lacks c text) here in
    and_from (not (eqb b c)) (lacks c (text ++ more)) parts.0 (lacks-append c text more parts.1 later)

pub lacks-joined : (c : ℕ) (separator : List ℕ) (texts : List (List ℕ)) → lacks c separator ≡ true → list_all (lacks c) texts ≡ true → lacks c (joined separator texts) ≡ true
lacks-joined c separator [] none all = refl
lacks-joined c separator (text ∷ []) none all = (and_parts (lacks c text) true all).0
lacks-joined c separator (text ∷ next ∷ texts) none all =
    let parts = and_parts (lacks c text) (list_all (lacks c) (next ∷ texts)) all in
    lacks-append c (text ++ separator) (joined separator (next ∷ texts)) (lacks-append c text separator parts.0 none) (lacks-joined c separator (next ∷ texts) none parts.1)

module _ (c : ℕ) where
  abbrev pub one : List ℕ
  one = c ∷ []

  begins-one : (b : ℕ) (text : List ℕ) → place_in one (b ∷ text) ≡ cond (eqb b c && true) (Some 0) (option_map (λ place. place + 1) (place_in one text))
  begins-one b text = refl

  pub place-none : (text : List ℕ) → lacks c text ≡ true → place_in one text ≡ None
  place-none [] none = refl
  place-none (b ∷ text) none =
      let parts = and_parts (not (eqb b c)) (lacks c text) none in
      begins-one b text
      ∙ ap (λ t. cond (t && true) (Some 0) (option_map (λ place. place + 1) (place_in one text))) (not-true (eqb b c) parts.0)
      ∙ ap (option_map (λ place. place + 1)) (place-none text parts.1)

  pub place-some : (same : eqb c c ≡ true) (text more : List ℕ) → lacks c text ≡ true → place_in one (text ++ c ∷ more) ≡ Some (length text)
  place-some same [] more none = begins-one c more ∙ ap (λ t. cond (t && true) (Some 0) (option_map (λ place. place + 1) (place_in one more))) same
  place-some same (b ∷ text) more none =
      let parts = and_parts (not (eqb b c)) (lacks c text) none in
      begins-one b (text ++ c ∷ more)
      ∙ ap (λ t. cond (t && true) (Some 0) (option_map (λ place. place + 1) (place_in one (text ++ c ∷ more)))) (not-true (eqb b c) parts.0)
      ∙ ap (option_map (λ place. place + 1)) (place-some same text more parts.1)
      ∙ ap Some (omega arith)

  pub none-lacks : (text : List ℕ) → is_some (place_in one text) ≡ false → lacks c text ≡ true
  none-lacks [] none = refl
  none-lacks (b ∷ text) none =
      elim (cases_Bool (eqb b c)) as (λ _. lacks c (b ∷ text) ≡ true) [
        | inl is ↦ absurd (true≢false (sym (ap (λ t. is_some (cond (t && true) (Some 0) (option_map (λ place. place + 1) (place_in one text)))) is) ∙ none))
        | inr isnt ↦
            let later = sym (ap (λ t. is_some (cond (t && true) (Some 0) (option_map (λ place. place + 1) (place_in one text)))) isnt) ∙ none in
            and_from (not (eqb b c)) (lacks c text) (ap not isnt) (none-lacks text (sym (map-some (place_in one text)) ∙ later))
      ]
    where
      map-some : (found : Option ℕ) → is_some (option_map (λ place. place + 1) found) ≡ is_some found
      map-some None = refl
      map-some (Some place) = refl

  -- texts without the separator, joined and split again
  pub split-joined : (same : eqb c c ≡ true) (text : List ℕ) (texts : List (List ℕ)) → list_all (lacks c) (text ∷ texts) ≡ true → split_by one (joined one (text ∷ texts)) ≡ text ∷ texts
  split-joined same text [] all = split_by-none one text (place-none text (and_parts (lacks c text) true all).0)
  split-joined same text (next ∷ texts) all =
      let parts = and_parts (lacks c text) (list_all (lacks c) (next ∷ texts)) all in
      let more = joined one (next ∷ texts) in
      let whole = text ++ c ∷ more in
      ap (split_by one) (append_assoc text one more) ∙ split_by-some one whole (length text) (omega arith) (place-some same text more parts.0)
      ∙ ap₂ (λ first rest. first ∷ split_by one rest) (take-append_seam text (c ∷ more)) (after-one text more)
      ∙ ap (λ rest. text ∷ rest) (split-joined same next texts parts.1)
    where
      after-one : (text more : List ℕ) → drop (length text + length one) (text ++ c ∷ more) ≡ more
      after-one [] more = refl
      after-one (b ∷ text) more =
          let count : length (b ∷ text) + length one ≡ suc (length text + length one) = omega arith in
          ap (λ n. drop n (b ∷ text ++ c ∷ more)) count ∙ after-one text more

-- a text that lacks a byte isn't cut at it
pub not-cut : (c : ℕ) → eqb c c ≡ true → (text before following : List ℕ) → lacks c text ≡ true → text ≡ before ++ c ∷ following → ⊥
not-cut c same text before following none is = cut before (sym (ap (lacks c) is) ∙ none)
  where
    cut : (before : List ℕ) → lacks c (before ++ c ∷ following) ≡ true → ⊥
    cut [] all = true≢false (sym (and_parts (not (eqb c c)) (lacks c following) all).0 ∙ ap not same)
    cut (b ∷ before) all = cut before (and_parts (not (eqb b c)) (lacks c (before ++ c ∷ following)) all).1

-- texts, each with LF
abbrev pub text_of_lines : List (List ℕ) → List ℕ
text_of_lines lines = flat_map (λ line. line ++ 10 ∷ []) lines

nothing-begun : (line begun : List ℕ) → begun_after begun (line ++ 10 ∷ []) ≡ []
nothing-begun line begun = begun-append begun line (10 ∷ [])

-- the lines of each text
pub ended-rows : (rows : List (List ℕ)) → ended_after [] (text_of_lines rows) ≡ flat_map (λ row. ended_after [] (row ++ 10 ∷ [])) rows
ended-rows [] = refl
ended-rows (row ∷ rows) =
    ended-append [] (row ++ 10 ∷ []) (text_of_lines rows)
    ∙ ap (λ begun. ended_after [] (row ++ 10 ∷ []) ++ ended_after begun (text_of_lines rows)) (nothing-begun row [])
    ∙ ap (λ more. ended_after [] (row ++ 10 ∷ []) ++ more) (ended-rows rows)

pub begun-rows : (rows : List (List ℕ)) → begun_after [] (text_of_lines rows) ≡ []
begun-rows [] = refl
begun-rows (row ∷ rows) = begun-append [] (row ++ 10 ∷ []) (text_of_lines rows) ∙ ap (λ begun. begun_after begun (text_of_lines rows)) (nothing-begun row []) ∙ begun-rows rows
