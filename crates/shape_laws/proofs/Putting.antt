-- A value that is set in a field changes none of the others.
use Rattle.std.proofs.Common.{◌≡◌, ℕ, cond, List, [], ◌∷◌, Some, None, refl, ap, sym, ◌∙◌, inl, inr}
use Rattle.std.specs.Str.{bytes_eq}
use Rattle.std.proofs.lemmas.Bool.{cases_Bool}
use Rattle.std.proofs.lemmas.Slice.Eq.{bytes_eq-Decides}
use Rattle.mlr_spec.specs.Tree.{Tree}
use Rattle.mlr_spec.specs.Pairs.{put_at, value_at}
use Rattle.mlr_groups.specs.Grouping.{others}
use Rattle.verbs_base.specs.Records.{Fields}

module _ (name : List ℕ) (value : Tree) where
  pub value-put : (fields : Fields) → value_at name (put_at name value fields) ≡ Some value
  value-put [] = rw (bytes_eq-Decides name name).1 refl
  value-put (field ∷ fields) =
      elim (cases_Bool (bytes_eq field.0 name)) as (λ _. value_at name (put_at name value (field ∷ fields)) ≡ Some value) [
        | inl here ↦ rw here (rw here refl)
        | inr other ↦ rw other (rw other (value-put fields))
      ]

  -- the last of two values
  pub put-again : (first : Tree) (fields : Fields) → put_at name value (put_at name first fields) ≡ put_at name value fields
  put-again first [] = rw (bytes_eq-Decides name name).1 refl
  put-again first (field ∷ fields) =
      elim (cases_Bool (bytes_eq field.0 name)) as (λ _. put_at name value (put_at name first (field ∷ fields)) ≡ put_at name value (field ∷ fields)) [
        | inl here ↦ rw here (rw here refl)
        | inr other ↦ rw other (rw other (ap (λ more. field ∷ more) (put-again first fields)))
      ]

  -- the value that is there
  pub put-same : (fields : Fields) → value_at name fields ≡ Some value → put_at name value fields ≡ fields
  put-same [] is = absurd (let e : None ≡ Some value = is in cc)
  put-same (field ∷ fields) is =
      elim (cases_Bool (bytes_eq field.0 name)) as (λ _. put_at name value (field ∷ fields) ≡ field ∷ fields) [
        | inl here ↦
            let found : Some field.1 ≡ Some value = sym (ap (λ t. cond t (Some field.1) (value_at name fields)) here) ∙ is in
            let same : field.1 ≡ value = cc in
            rw here (ap (λ v. (field.0, v) ∷ fields) (sym same))
        | inr other ↦
            let later : value_at name fields ≡ Some value = sym (ap (λ t. cond t (Some field.1) (value_at name fields)) other) ∙ is in
            rw other (ap (λ more. field ∷ more) (put-same fields later))
      ]

  pub others-put : (fields : Fields) → others (name ∷ []) (put_at name value fields) ≡ others (name ∷ []) fields
  others-put [] = rw (bytes_eq-Decides name name).1 refl
  others-put (field ∷ fields) =
      elim (cases_Bool (bytes_eq field.0 name)) as (λ _. others (name ∷ []) (put_at name value (field ∷ fields)) ≡ others (name ∷ []) (field ∷ fields)) [
        | inl here ↦ rw here (rw here refl)
        | inr other ↦ rw other (rw other (ap (λ more. field ∷ more) (others-put fields)))
      ]
