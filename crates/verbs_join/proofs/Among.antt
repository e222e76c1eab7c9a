-- Whether a name is among those outside the join fields.
use Rattle.std.proofs.Common.{◌≡◌, ℕ, Bool, true, false, cond, not, ◌&&◌, ◌||◌, List, [], ◌∷◌, refl, ap, sym, ◌∙◌, inl, inr}
use Rattle.std.specs.Option.{is_some}
use Rattle.std.specs.Str.{bytes_eq}
use Rattle.std.proofs.lemmas.Bool.{cases_Bool}
use Rattle.std.proofs.lemmas.List.Folds.{list_any-append}
use Rattle.std.proofs.lemmas.Slice.Eq.{bytes_eq-Decides}
use Rattle.mlr_event.proofs.Distinct.{bytes_eq-swap}
use Rattle.mlr_event.specs.Reading.{is_among}
use Rattle.mlr_groups.specs.Keys.{entered}
use Rattle.mlr_spec.specs.Pairs.{keys_of, value_at}
use Rattle.mlr_spec.specs.Tree.{Tree}
use Rattle.verbs_base.specs.Choosing.{dropped}
use Rattle.verbs_base.specs.Records.{Fields}

and-false : (b : Bool) → (b && false) ≡ false
and-false true = refl
and-false false = refl

or-false : (b : Bool) → (b || false) ≡ b
or-false true = refl
or-false false = refl

or-assoc : (a b c : Bool) → ((a || b) || c) ≡ (a || (b || c))
or-assoc true b c = refl
or-assoc false b c = refl

-- a name is outside the join fields if the record has it and it isn't one of theirs
pub among-others : (names : List (List ℕ)) (fields : Fields) (name : List ℕ) → is_among (keys_of (dropped names fields)) name ≡ (is_some (value_at name fields) && not (is_among names name))
among-others names [] name = refl
among-others names (field ∷ fields) name =
    let rest = among-others names fields name in
    elim (cases_Bool (bytes_eq field.0 name)) as (λ _. is_among (keys_of (dropped names (field ∷ fields))) name ≡ (is_some (value_at name (field ∷ fields)) && not (is_among names name))) [
      | inl same ↦ rw same (here same rest)
      | inr other ↦ rw other (there other rest)
    ]
  where
    here : bytes_eq field.0 name ≡ true → is_among (keys_of (dropped names fields)) name ≡ (is_some (value_at name fields) && not (is_among names name))
        → is_among (keys_of (dropped names (field ∷ fields))) name ≡ not (is_among names name)
    here same rest =
        let is : field.0 ≡ name = (bytes_eq-Decides field.0 name).0 same in
        elim (cases_Bool (is_among names field.0)) as (λ _. is_among (keys_of (dropped names (field ∷ fields))) name ≡ not (is_among names name)) [
          | inl joins ↦
              let own : is_among names name ≡ true = ap (is_among names) (sym is) ∙ joins in
              rw joins (rest ∙ ap (λ t. is_some (value_at name fields) && not t) own ∙ and-false (is_some (value_at name fields)) ∙ sym (ap not own))
          | inr free ↦
              let own : is_among names name ≡ false = ap (is_among names) (sym is) ∙ free in
              rw free (ap (λ t. t || is_among (keys_of (dropped names fields)) name) (bytes_eq-swap name field.0 ∙ same) ∙ sym (ap not own))
        ]

    there : bytes_eq field.0 name ≡ false → is_among (keys_of (dropped names fields)) name ≡ (is_some (value_at name fields) && not (is_among names name))
        → is_among (keys_of (dropped names (field ∷ fields))) name ≡ (is_some (value_at name fields) && not (is_among names name))
    there other rest =
        elim (cases_Bool (is_among names field.0)) as (λ _. is_among (keys_of (dropped names (field ∷ fields))) name ≡ (is_some (value_at name fields) && not (is_among names name))) [
          | inl joins ↦ rw joins rest
          | inr free ↦ rw free (ap (λ t. t || is_among (keys_of (dropped names fields)) name) (bytes_eq-swap name field.0 ∙ other) ∙ rest)
        ]

-- the names of a table with one more
pub among-entered : (keys : List (List ℕ)) (key name : List ℕ) → is_among (entered keys key) name ≡ (is_among keys name || bytes_eq name key)
among-entered keys key name =
    elim (cases_Bool (is_among keys key)) as (λ _. is_among (entered keys key) name ≡ (is_among keys name || bytes_eq name key)) [
      | inl known ↦ rw known (kept known)
      | inr new ↦ rw new (list_any-append (bytes_eq name) keys (key ∷ []) ∙ ap (λ t. is_among keys name || t) (or-false (bytes_eq name key)))
    ]
  where
    kept : is_among keys key ≡ true → is_among keys name ≡ (is_among keys name || bytes_eq name key)
    kept known =
        elim (cases_Bool (bytes_eq name key)) as (λ _. is_among keys name ≡ (is_among keys name || bytes_eq name key)) [
          | inl same ↦
              let there : is_among keys name ≡ true = ap (is_among keys) ((bytes_eq-Decides name key).0 same) ∙ known in
              there ∙ sym (ap (λ t. t || bytes_eq name key) there)
          | inr apart ↦ sym (ap (λ t. is_among keys name || t) apart ∙ or-false (is_among keys name))
        ]

-- a field that is a join field, and one that is another
pub dropped-join : (names : List (List ℕ)) (field : List ℕ × Tree) (fields : Fields) → is_among names field.0 ≡ true → dropped names (field ∷ fields) ≡ dropped names fields
dropped-join names field fields joins = ap (λ t. cond (not t) (field ∷ dropped names fields) (dropped names fields)) joins

pub dropped-other : (names : List (List ℕ)) (field : List ℕ × Tree) (fields : Fields) → is_among names field.0 ≡ false → dropped names (field ∷ fields) ≡ field ∷ dropped names fields
dropped-other names field fields free = ap (λ t. cond (not t) (field ∷ dropped names fields) (dropped names fields)) free

-- the names of the table and of the fields that are left
abbrev pub among_all : List (List ℕ) → List (List ℕ) → Fields → List ℕ → Bool
among_all table names fields name = is_among table name || is_among (keys_of (dropped names fields)) name

pub among-join : (table names : List (List ℕ)) (field : List ℕ × Tree) (fields : Fields) → is_among names field.0 ≡ true → (name : List ℕ) → among_all table names fields name ≡ among_all table names (field ∷ fields) name
among-join table names field fields joins name = ap (λ others. is_among table name || is_among (keys_of others) name) (sym (dropped-join names field fields joins))

pub among-other : (table names : List (List ℕ)) (field : List ℕ × Tree) (fields : Fields) → is_among names field.0 ≡ false → (name : List ℕ) → among_all (entered table field.0) names fields name ≡ among_all table names (field ∷ fields) name
among-other table names field fields free name =
    ap (λ t. t || is_among (keys_of (dropped names fields)) name) (among-entered table field.0 name)
    ∙ or-assoc (is_among table name) (bytes_eq name field.0) (is_among (keys_of (dropped names fields)) name)
    ∙ ap (λ others. is_among table name || is_among (keys_of others) name) (sym (dropped-other names field fields free))
