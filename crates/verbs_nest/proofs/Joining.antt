-- One more text that is joined to others.
use Rattle.std.proofs.Common.{◌≡◌, ℕ, true, false, List, [], ◌∷◌, ◌++◌, Option, Some, slice_get, refl, ap, sym, ◌∙◌, append_assoc}
use Rattle.std.specs.Option.{is_some, option_map_or}
use Rattle.std.proofs.lemmas.Bool.{true≢false}
use Rattle.std.proofs.lemmas.List.{map-append}
use Rattle.mlr_spec.specs.Json.{joined}
use Rattle.mlr_spec.specs.Pairs.{value_at}
use Rattle.text_forms.specs.Shown.{shown}
use Rattle.verbs_base.specs.Records.{Row}
use Rattle.verbs_nest.specs.Implode.{texts_at}

pub joined-more : (separator first : List ℕ) (texts : List (List ℕ)) (last : List ℕ) → joined separator (first ∷ texts ++ last ∷ []) ≡ joined separator (first ∷ texts) ++ separator ++ last
joined-more separator first [] last = refl
joined-more separator first (text ∷ texts) last =
    ap (λ more. first ++ separator ++ more) (joined-more separator text texts last)
    ∙ sym (append_assoc (first ++ separator) (joined separator (text ∷ texts) ++ separator) last)
    ∙ ap (λ more. more ++ last) (sym (append_assoc (first ++ separator) (joined separator (text ∷ texts)) separator))

-- the text of a field in a row
abbrev pub text_in : List ℕ → Row → List ℕ
text_in name row = option_map_or shown (value_at name row.0) []

module _ (name separator : List ℕ) where
  -- what is kept of some rows: the first of them, and the texts of a field, joined
  abbrev pub Kept : Option Row → List ℕ → List Row → Type 0
  Kept first text rows = (first ≡ slice_get rows 0) × (text ≡ joined separator (texts_at name rows))

  module _ (first : Option Row) (text : List ℕ) (row : Row) where
    pub first-kept : (rows : List Row) → is_some first ≡ false → Kept first text rows → Kept (Some row) (text ++ text_in name row) (rows ++ row ∷ [])
    first-kept [] none kept = (refl, ap (λ t. t ++ text_in name row) kept.1)
    first-kept (r ∷ rows) none kept = absurd (true≢false (sym (ap is_some kept.0) ∙ none))

    pub more-kept : (rows : List Row) → is_some first ≡ true → Kept first text rows → Kept first (text ++ separator ++ text_in name row) (rows ++ row ∷ [])
    more-kept [] some kept = absurd (true≢false (sym some ∙ ap is_some kept.0))
    more-kept (r ∷ rows) some kept = (
      kept.0,
      ap (λ t. t ++ separator ++ text_in name row) kept.1
          ∙ sym (joined-more separator (text_in name r) (texts_at name rows) (text_in name row))
          ∙ ap (λ texts. joined separator (text_in name r ∷ texts)) (sym (map-append (text_in name) rows (row ∷ []))),
    )
