-- The names of the fields that `template` gives.
use Rattle.std.proofs.Common.{◌≡◌, ℕ, true, false, not, cond, ◌||◌, List, [], ◌∷◌, map, refl, ap, ap₂, sym, subst, ◌∙◌, inl, inr}
use Rattle.std.specs.List.{list_any, filter}
use Rattle.std.specs.Str.{bytes_eq}
use Rattle.std.proofs.lemmas.Bool.{cases_Bool, and_parts, or_parts, not-true}
use Rattle.std.proofs.lemmas.Slice.Eq.{bytes_eq-Decides}
use Rattle.mlr_spec.specs.Pairs.{keys_of, are_distinct}
use Rattle.mlr_event.specs.Reading.{is_among}
use Rattle.verbs_base.specs.Choosing.{once}
use Rattle.verbs_base.specs.Records.{Fields}
use Rattle.verbs_fields.specs.declared.template.Template.{Template}
use Rattle.verbs_fields.specs.Template.{field_or, template}

keys-given : (fill : List ℕ) (fields : Fields) (names : List (List ℕ)) → keys_of (map (field_or fill fields) names) ≡ names
keys-given fill fields [] = refl
keys-given fill fields (name ∷ names) = ap (λ x. name ∷ x) (keys-given fill fields names)

pub template-names : (verb : Template) (fields : Fields) → keys_of (template verb fields) ≡ once verb.names
template-names verb fields = keys-given verb.fill fields (once verb.names)

-- a name that differs from one that is left out is there as before
left-among : (name other : List ℕ) (names : List (List ℕ)) → bytes_eq other name ≡ false → is_among (filter (λ n. not (bytes_eq name n)) names) other ≡ is_among names other
left-among name other [] apart = refl
left-among name other (n ∷ names) apart =
    elim (cases_Bool (bytes_eq name n)) as (λ _. is_among (filter (λ n. not (bytes_eq name n)) (n ∷ names)) other ≡ is_among (n ∷ names) other) [
      | inl same ↦
          let no : bytes_eq other n ≡ false = subst (λ k. bytes_eq other k ≡ false) ((bytes_eq-Decides name n).0 same) apart in
          rw same (left-among name other names apart ∙ sym (ap (λ t. t || is_among names other) no))
      | inr differs ↦ rw differs (ap (λ t. bytes_eq other n || t) (left-among name other names apart))
    ]

pub once-among : (names : List (List ℕ)) (other : List ℕ) → is_among (once names) other ≡ is_among names other
once-among [] other = refl
once-among (name ∷ names) other =
    elim (cases_Bool (bytes_eq other name)) as (λ _. is_among (once (name ∷ names)) other ≡ is_among (name ∷ names) other) [
      | inl same ↦ rw same refl
      | inr apart ↦ ap (λ t. bytes_eq other name || t) (left-among name other (once names) apart ∙ once-among names other)
    ]

none-left-out : (name : List ℕ) (names : List (List ℕ)) → list_any (bytes_eq name) names ≡ false → filter (λ n. not (bytes_eq name n)) names ≡ names
none-left-out name [] none = refl
none-left-out name (n ∷ names) none =
    let parts = or_parts (bytes_eq name n) (list_any (bytes_eq name) names) none in
    ap₂ (λ t rest. cond (not t) (n ∷ rest) rest) parts.0 (none-left-out name names parts.1)

-- names that are distinct are there once already
pub once-distinct : (names : List (List ℕ)) → are_distinct names ≡ true → once names ≡ names
once-distinct [] distinct = refl
once-distinct (name ∷ names) distinct =
    let parts = and_parts (not (list_any (bytes_eq name) names)) (are_distinct names) distinct in
    ap (λ x. name ∷ filter (λ n. not (bytes_eq name n)) x) (once-distinct names parts.1)
    ∙ ap (λ x. name ∷ x) (none-left-out name names (not-true _ parts.0))
