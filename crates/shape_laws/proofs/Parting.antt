-- The selected fields and the others of a record have different names.
use Rattle.std.proofs.Common.{◌≡◌, ℕ, Bool, true, false, not, List, [], ◌∷◌, ◌++◌, refl, ap, sym, ◌∙◌, inl, inr}
use Rattle.std.specs.List.{filter}
use Rattle.std.specs.Str.{bytes_eq}
use Rattle.std.proofs.lemmas.Bool.{cases_Bool, cond_both, or_from, true≢false}
use Rattle.std.proofs.lemmas.List.{map-append}
use Rattle.std.proofs.lemmas.Slice.Eq.{bytes_eq-Decides}
use Rattle.mlr_event.specs.Reading.{is_among}
use Rattle.mlr_pattern.specs.Several.{patterns_in}
use Rattle.mlr_spec.specs.Pairs.{are_distinct, keys_of}
use Rattle.mlr_spec.specs.Tree.{Tree}
use Rattle.verbs_base.specs.Records.{Fields}
use Rattle.verbs_base.proofs.Filters.{are_distinct-filter}
use Rattle.verbs_base.proofs.Picking.{are_distinct-append, are_distinct-last}
use Rattle.verbs_pattern.specs.Matching.{any_matches}
use Rattle.verbs_reshape.specs.declared.to_long.LongFields.{LongFields}
use Rattle.verbs_reshape.specs.declared.to_long.LongFields.TheVariants.{Names, Patterns}
use Rattle.shape_laws.specs.Back.{parted}

-- a name that fails a test isn't that of a field whose name passes it
failed : (test : List ℕ → Bool) (name : List ℕ) → test name ≡ false → (fields : Fields) → is_among (keys_of (filter (λ field. test field.0) fields)) name ≡ false
failed test name fails [] = refl
failed test name fails (field ∷ fields) =
    let left = filter (λ (field : List ℕ × Tree). test field.0) fields in
    cond_both (test field.0) (field ∷ left) left (λ kept. is_among (keys_of kept) name ≡ false)
    (λ passes. or_from _ _ (differs passes) (failed test name fails fields)) (λ _. failed test name fails fields)
  where
    differs : test field.0 ≡ true → bytes_eq name field.0 ≡ false
    differs passes =
        elim (cases_Bool (bytes_eq name field.0)) as (λ _. bytes_eq name field.0 ≡ false) [
          | inl same ↦ absurd (true≢false (sym passes ∙ sym (ap test ((bytes_eq-Decides name field.0).0 same)) ∙ fails))
          | inr apart ↦ apart
        ]

module _ (test : List ℕ → Bool) (fields : Fields) (distinct : are_distinct (keys_of fields) ≡ true) where
  distinct-halves : are_distinct (keys_of (filter (λ field. not (test field.0)) fields ++ filter (λ field. test field.0) fields)) ≡ true
  distinct-halves =
      let fail = filter (λ (field : List ℕ × Tree). not (test field.0)) fields in
      let pass = filter (λ (field : List ℕ × Tree). test field.0) fields in
      ap are_distinct (map-append (λ (field : List ℕ × Tree). field.0) fail pass)
      ∙ are_distinct-append (keys_of fail) (keys_of pass) (are_distinct-filter (λ field. not (test field.0)) fields distinct) (are_distinct-filter (λ field. test field.0) fields distinct) (λ key among.
      elim (cases_Bool (test key)) as (λ _. is_among (keys_of pass) key ≡ false) [
        | inl passes ↦ absurd (true≢false (sym among ∙ failed (λ name. not (test name)) key (ap not passes) fields))
        | inr fails ↦ failed test key fails fields
      ])

pub distinct-parted : (which : LongFields) (fields : Fields) → are_distinct (keys_of fields) ≡ true → are_distinct (keys_of (parted which fields)) ≡ true
distinct-parted (Names names) fields distinct = are_distinct-last names fields distinct
distinct-parted (Patterns patterns) fields distinct = distinct-halves (any_matches (patterns_in patterns)) fields distinct
