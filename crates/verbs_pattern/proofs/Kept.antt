-- Fields that are kept by their names.
use Rattle.std.proofs.Common.{◌≡◌, ℕ, Bool, true, false, not, List, [], ◌∷◌, ◌++◌, refl, sym, ap, ◌∙◌, append_assoc}
use Rattle.std.specs.List.{filter, list_any}
use Rattle.std.specs.Str.{bytes_eq}
use Rattle.std.proofs.lemmas.Bool.{and_from, and_parts, cond_both, not-true, not_from_false, or_from, or_parts}
use Rattle.std.proofs.lemmas.List.Elements.{filter-append}
use Rattle.std.proofs.lemmas.List.Sorted.{IsPermutation-filter_both}
use Rattle.std.specs.List.Sorted.{IsPermutation}
use Rattle.mlr_event.specs.Reading.{is_among}
use Rattle.mlr_pattern.specs.Several.{patterns_in}
use Rattle.mlr_spec.specs.Pairs.{keys_of, are_distinct}
use Rattle.mlr_spec.specs.Tree.{Tree}
use Rattle.verbs_pattern.specs.Cut.{is_kept, selected}
use Rattle.verbs_pattern.specs.declared.cut.CutFields.{CutFields}
use Rattle.verbs_pattern.specs.declared.cut.CutFields.TheVariants.{Names, Patterns}

module _ (test : List ℕ × Tree → Bool) where
  absent-kept : (key : List ℕ) (pairs : List (List ℕ × Tree)) → list_any (bytes_eq key) (keys_of pairs) ≡ false →
      list_any (bytes_eq key) (keys_of (filter test pairs)) ≡ false
  absent-kept key [] absent = refl
  absent-kept key (pair ∷ pairs) absent =
      let parts = or_parts (bytes_eq key pair.0) (list_any (bytes_eq key) (keys_of pairs)) absent in
      cond_both (test pair) (pair ∷ filter test pairs) (filter test pairs) (λ kept. list_any (bytes_eq key) (keys_of kept) ≡ false)
      (λ _. or_from _ _ parts.0 (absent-kept key pairs parts.1)) (λ _. absent-kept key pairs parts.1)

  pub distinct-kept : (pairs : List (List ℕ × Tree)) → are_distinct (keys_of pairs) ≡ true → are_distinct (keys_of (filter test pairs)) ≡ true
  distinct-kept [] distinct = refl
  distinct-kept (pair ∷ pairs) distinct =
      let parts = and_parts (not (list_any (bytes_eq pair.0) (keys_of pairs))) (are_distinct (keys_of pairs)) distinct in
      cond_both (test pair) (pair ∷ filter test pairs) (filter test pairs) (λ kept. are_distinct (keys_of kept) ≡ true)
      (λ _. and_from _ _ (not_from_false _ (absent-kept pair.0 pairs (not-true _ parts.0))) (distinct-kept pairs parts.1))
      (λ _. distinct-kept pairs parts.1)

  -- one more field
  pub kept_on : (pair : List ℕ × Tree) (pairs old new : List (List ℕ × Tree)) → new ≡ old ++ filter test (pair ∷ []) →
      new ++ filter test pairs ≡ old ++ filter test (pair ∷ pairs)
  kept_on pair pairs old new is =
      ap (λ l. l ++ filter test pairs) is
      ∙ append_assoc old (filter test (pair ∷ [])) (filter test pairs)
      ∙ ap (λ l. old ++ l) (sym (filter-append test (pair ∷ []) pairs))

-- the fields that `cut` keeps, and those that it keeps with `-x`
pub kept-apart : (which : CutFields) (fields : List (List ℕ × Tree)) → IsPermutation fields (selected which false false fields ++ selected which false true fields)
kept-apart (Names names) fields = IsPermutation-filter_both (λ pair. is_among names pair.0) (λ pair. not (is_among names pair.0)) (λ pair. refl) fields
kept-apart (Patterns patterns) fields = IsPermutation-filter_both (is_kept (patterns_in patterns) false) (is_kept (patterns_in patterns) true) (λ pair. refl) fields
