-- `unsparsify -f` appends the names that a record lacks, each once.
use Rattle.std.proofs.Common.{◌≡◌, ℕ, Bool, true, false, not, cond, ◌||◌, List, [], ◌∷◌, ◌++◌, map, Some, None, is_some, refl, ap, sym, ◌∙◌, inl, inr, append_assoc}
use Rattle.std.specs.List.{filter}
use Rattle.std.specs.Str.{bytes_eq}
use Rattle.std.proofs.lemmas.Bool.{cases_Bool}
use Rattle.std.proofs.lemmas.List.{append-nil, map-append}
use Rattle.std.proofs.lemmas.List.Folds.{list_any-append}
use Rattle.std.proofs.lemmas.Slice.Eq.{bytes_eq-Decides}
use Rattle.mlr_spec.proofs.Splitting.{cases_Option}
use Rattle.mlr_spec.specs.JsonGrammar.{text_value}
use Rattle.mlr_spec.specs.Pairs.{keys_of, value_at}
use Rattle.mlr_event.specs.Reading.{is_among}
use Rattle.mlr_event.proofs.Distinct.{bytes_eq-swap}
use Rattle.verbs_base.specs.Choosing.{once}
use Rattle.verbs_base.specs.Records.{Fields}
use Rattle.verbs_hold.specs.UnsparsifyFields.{fill_missing, unsparsify_fields}

abbrev Name : Type 0
Name = List ℕ

-- the names that aren't among others
abbrev lacking : List Name → List Name → List Name
lacking there names = filter (λ name. not (is_among there name)) names

abbrev others : Name → List Name → List Name
others name names = filter (λ other. not (bytes_eq name other)) names

lacking-others : (there : List Name) (name : Name) → is_among there name ≡ true → (names : List Name) → lacking there (others name names) ≡ lacking there names
lacking-others there name known [] = refl
lacking-others there name known (other ∷ names) =
    elim (cases_Bool (bytes_eq name other)) as (λ _. lacking there (others name (other ∷ names)) ≡ lacking there (other ∷ names)) [
      | inl same ↦
          let is : is_among there other ≡ true = ap (is_among there) (sym ((bytes_eq-Decides name other).0 same)) ∙ known in
          rw same (rw is (lacking-others there name known names))
      | inr apart ↦
          elim (cases_Bool (is_among there other)) as (λ _. lacking there (others name (other ∷ names)) ≡ lacking there (other ∷ names)) [
            | inl is ↦ rw apart (rw is (lacking-others there name known names))
            | inr isnt ↦ rw apart (rw isnt (ap (λ more. other ∷ more) (lacking-others there name known names)))
          ]
    ]

among-more : (there : List Name) (name other : Name) → is_among (there ++ name ∷ []) other ≡ (is_among there other || (bytes_eq name other || false))
among-more there name other = list_any-append (bytes_eq other) there (name ∷ []) ∙ ap (λ t. is_among there other || (t || false)) (bytes_eq-swap other name)

lacking-more : (there : List Name) (name : Name) (names : List Name) → lacking there (others name names) ≡ lacking (there ++ name ∷ []) names
lacking-more there name [] = refl
lacking-more there name (other ∷ names) =
    elim (cases_Bool (bytes_eq name other)) as (λ _. lacking there (others name (other ∷ names)) ≡ lacking (there ++ name ∷ []) (other ∷ names)) [
      | inl same ↦
          let more : is_among (there ++ name ∷ []) other ≡ true = among-more there name other ∙ ap (λ t. is_among there other || (t || false)) same ∙ either (is_among there other) in
          rw same (rw more (lacking-more there name names))
      | inr apart ↦
          let more : is_among (there ++ name ∷ []) other ≡ is_among there other = among-more there name other ∙ ap (λ t. is_among there other || (t || false)) apart ∙ neither (is_among there other) in
          elim (cases_Bool (is_among there other)) as (λ _. lacking there (others name (other ∷ names)) ≡ lacking (there ++ name ∷ []) (other ∷ names)) [
            | inl is ↦ let also = more ∙ is in rw apart (rw is (rw also (lacking-more there name names)))
            | inr isnt ↦ let also = more ∙ isnt in rw apart (rw isnt (rw also (ap (λ left. other ∷ left) (lacking-more there name names))))
          ]
    ]
  where
    either : (b : Bool) → (b || true) ≡ true
    either true = refl
    either false = refl

    neither : (b : Bool) → (b || false) ≡ b
    neither true = refl
    neither false = refl

has-value : (name : Name) (fields : Fields) → is_some (value_at name fields) ≡ is_among (keys_of fields) name
has-value name [] = refl
has-value name (field ∷ fields) =
    elim (cases_Bool (bytes_eq field.0 name)) as (λ _. is_some (value_at name (field ∷ fields)) ≡ is_among (keys_of (field ∷ fields)) name) [
      | inl same ↦ let here = bytes_eq-swap name field.0 ∙ same in rw same (rw here refl)
      | inr apart ↦ let there = bytes_eq-swap name field.0 ∙ apart in rw apart (rw there (has-value name fields))
    ]

module _ (fill : Name) where
  known : (fields : Fields) (name : Name) → is_among (keys_of fields) name ≡ true → fill_missing fill fields name ≡ fields
  known fields name is =
      elim (cases_Option (value_at name fields)) as (λ _. fill_missing fill fields name ≡ fields) [
        | inl none ↦ absurd (let no : false ≡ true = sym (ap is_some none) ∙ has-value name fields ∙ is in cc)
        | inr (value, some) ↦ ap (λ has. elim has as (λ _. Fields) [ Some value ↦ fields | None ↦ fields ++ (name, text_value fill) ∷ [] ]) some
      ]

  new : (fields : Fields) (name : Name) → is_among (keys_of fields) name ≡ false → fill_missing fill fields name ≡ fields ++ (name, text_value fill) ∷ []
  new fields name isnt =
      elim (cases_Option (value_at name fields)) as (λ _. fill_missing fill fields name ≡ fields ++ (name, text_value fill) ∷ []) [
        | inl none ↦ ap (λ has. elim has as (λ _. Fields) [ Some value ↦ fields | None ↦ fields ++ (name, text_value fill) ∷ [] ]) none
        | inr (value, some) ↦ absurd (let no : true ≡ false = sym (ap is_some some) ∙ has-value name fields ∙ isnt in cc)
      ]

  pub appended : (names : List Name) (fields : Fields) → unsparsify_fields fill names fields ≡ fields ++ map (λ name. (name, text_value fill)) (lacking (keys_of fields) (once names))
  appended [] fields = sym (append-nil fields)
  appended (name ∷ names) fields =
      elim (cases_Bool (is_among (keys_of fields) name)) as (λ _. unsparsify_fields fill (name ∷ names) fields ≡ fields ++ map (λ name. (name, text_value fill)) (lacking (keys_of fields) (once (name ∷ names)))) [
        | inl is ↦
            ap (unsparsify_fields fill names) (known fields name is)
            ∙ appended names fields
            ∙ ap (λ more. fields ++ map (λ name. (name, text_value fill)) more)
            (sym (lacking-others (keys_of fields) name is (once names)) ∙ ap (λ t. cond (not t) (name ∷ lacking (keys_of fields) (others name (once names))) (lacking (keys_of fields) (others name (once names)))) (sym is))
        | inr isnt ↦
            let more : Fields = fields ++ (name, text_value fill) ∷ [] in
            ap (unsparsify_fields fill names) (new fields name isnt)
            ∙ appended names more
            ∙ ap (λ keys. more ++ map (λ name. (name, text_value fill)) (lacking keys (once names))) (map-append (λ pair. pair.0) fields ((name, text_value fill) ∷ []))
            ∙ append_assoc fields ((name, text_value fill) ∷ []) _
            ∙ ap (λ left. fields ++ (name, text_value fill) ∷ map (λ name. (name, text_value fill)) left) (sym (lacking-more (keys_of fields) name (once names)))
            ∙ ap (λ t. fields ++ map (λ name. (name, text_value fill)) (cond (not t) (name ∷ lacking (keys_of fields) (others name (once names))) (lacking (keys_of fields) (others name (once names))))) (sym isnt)
      ]
