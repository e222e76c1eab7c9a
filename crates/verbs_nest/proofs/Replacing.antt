-- A field that keeps its name where its value is replaced.
use Rattle.std.proofs.Common.{◌≡◌, ℕ, true, false, cond, not, List, [], ◌∷◌, ◌++◌, map, Some, refl, ap, ap₂, sym, subst, ◌∙◌, inl, inr}
use Rattle.std.specs.List.{flat_map, list_any}
use Rattle.std.specs.Option.{is_some}
use Rattle.std.specs.Str.{bytes_eq}
use Rattle.std.proofs.lemmas.Bool.{and_parts, cases_Bool, not-true, or_parts, true≢false}
use Rattle.std.proofs.lemmas.Slice.Eq.{bytes_eq-Decides}
use Rattle.mlr_spec.specs.Tree.{Tree}
use Rattle.mlr_spec.specs.Pairs.{are_distinct, keys_of, put_at, put_each, value_at}
use Rattle.mlr_spec.proofs.Flattening.{put_each-distinct}
use Rattle.mlr_spec.proofs.Pairs.{are_distinct-put}
use Rattle.mlr_event.proofs.Distinct.{bytes_eq-swap}
use Rattle.verbs_base.specs.Records.{Fields}
use Rattle.verbs_nest.specs.Nest.{in_place, replaced}

module _ (name : List ℕ) (made : Fields) where
  -- without the field all stay
  none-replaced : (fields : Fields) → list_any (bytes_eq name) (keys_of fields) ≡ false → flat_map (in_place name made) fields ≡ fields
  none-replaced [] absent = refl
  none-replaced (field ∷ fields) absent =
      let parts = or_parts (bytes_eq name field.0) (list_any (bytes_eq name) (keys_of fields)) absent in
      ap₂ (λ t more. cond t made (field ∷ []) ++ more) (bytes_eq-swap field.0 name ∙ parts.0) (none-replaced fields parts.1)

module _ (name : List ℕ) (value : Tree) where
  -- the field with another value
  one-replaced : (fields : Fields) → is_some (value_at name fields) ≡ true → are_distinct (keys_of fields) ≡ true → flat_map (in_place name ((name, value) ∷ [])) fields ≡ put_at name value fields
  one-replaced [] there distinct = absurd (true≢false (sym there))
  one-replaced (field ∷ fields) there distinct =
      let parts = and_parts (not (list_any (bytes_eq field.0) (keys_of fields))) (are_distinct (keys_of fields)) distinct in
      elim (cases_Bool (bytes_eq field.0 name)) as (λ _. flat_map (in_place name ((name, value) ∷ [])) (field ∷ fields) ≡ put_at name value (field ∷ fields)) [
        | inl here ↦
            let same : field.0 ≡ name = (bytes_eq-Decides field.0 name).0 here in
            let rest = none-replaced name ((name, value) ∷ []) fields (subst (λ key. list_any (bytes_eq key) (keys_of fields) ≡ false) same (not-true _ parts.0)) in
            ap₂ (λ t more. cond t ((name, value) ∷ []) (field ∷ []) ++ more) here rest
            ∙ ap (λ key. (key, value) ∷ fields) (sym same)
            ∙ sym (ap (λ t. cond t ((field.0, value) ∷ fields) (field ∷ put_at name value fields)) here)
        | inr other ↦
            let later : is_some (value_at name fields) ≡ true = sym (ap (λ t. is_some (cond t (Some field.1) (value_at name fields))) other) ∙ there in
            ap₂ (λ t more. cond t ((name, value) ∷ []) (field ∷ []) ++ more) other (one-replaced fields later parts.1)
            ∙ sym (ap (λ t. cond t ((field.0, value) ∷ fields) (field ∷ put_at name value fields)) other)
      ]

  pub value-replaced : (fields : Fields) → is_some (value_at name fields) ≡ true → are_distinct (keys_of fields) ≡ true → replaced name ((name, value) ∷ []) fields ≡ put_at name value fields
  value-replaced fields there distinct =
      ap (put_each []) (one-replaced fields there distinct) ∙ put_each-distinct [] (put_at name value fields) (are_distinct-put name value fields distinct)

-- what the value in the field was makes no difference
module _ (name : List ℕ) (value : Tree) where
  in-place-put : (made fields : Fields) → is_some (value_at name fields) ≡ true → flat_map (in_place name made) (put_at name value fields) ≡ flat_map (in_place name made) fields
  in-place-put made [] there = absurd (true≢false (sym there))
  in-place-put made (field ∷ fields) there =
      elim (cases_Bool (bytes_eq field.0 name)) as (λ _. flat_map (in_place name made) (put_at name value (field ∷ fields)) ≡ flat_map (in_place name made) (field ∷ fields)) [
        | inl here ↦ rw here (rw here refl)
        | inr other ↦
            let later : is_some (value_at name fields) ≡ true = sym (ap (λ t. is_some (cond t (Some field.1) (value_at name fields))) other) ∙ there in
            rw other (rw other (ap (λ more. field ∷ more) (in-place-put made fields later)))
      ]

  pub each-replaced : (makes : List Fields) (fields : Fields) → is_some (value_at name fields) ≡ true → map (λ made. replaced name made (put_at name value fields)) makes ≡ map (λ made. replaced name made fields) makes
  each-replaced [] fields there = refl
  each-replaced (made ∷ makes) fields there = ap₂ (λ x xs. x ∷ xs) (ap (put_each []) (in-place-put made fields there)) (each-replaced makes fields there)

  pub there-put : (fields : Fields) → is_some (value_at name (put_at name value fields)) ≡ true
  there-put [] = rw (bytes_eq-Decides name name).1 refl
  there-put (field ∷ fields) =
      elim (cases_Bool (bytes_eq field.0 name)) as (λ _. is_some (value_at name (put_at name value (field ∷ fields))) ≡ true) [
        | inl here ↦ rw here (rw here refl)
        | inr other ↦ rw other (rw other (there-put fields))
      ]
