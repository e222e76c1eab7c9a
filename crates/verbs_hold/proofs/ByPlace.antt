-- Values put in the places of their names, and taken from there.
use Rattle.std.proofs.Common.{◌≡◌, ℕ, zero, suc, ◌+◌, ◌<◌, ◌≤◌, true, false, not, cond, List, [], ◌∷◌, ◌++◌, length, take, drop, set, get_or, slice_get, Option, Some, None, refl, ap, ap₂, sym, inl, inr, ◌∙◌, arith}
use Rattle.std.specs.Option.{option_map, option_or, unwrap_or}
use Rattle.std.specs.Str.{bytes_eq}
use Rattle.std.proofs.lemmas.Bool.{cases_Bool, and_parts, not-true, or_parts, true≢false}
use Rattle.std.proofs.lemmas.List.{map-append, take_all, take_more, drop_more, take_more_set, drop-set-lt}
use Rattle.std.proofs.lemmas.Slice.Eq.{bytes_eq-Decides}
use Rattle.mlr_event.specs.Reading.{is_among}
use Rattle.mlr_event.proofs.Naming.{free-at}
use Rattle.mlr_spec.specs.JsonGrammar.{text_value}
use Rattle.mlr_spec.specs.Pairs.{are_distinct, keys_of, value_at}
use Rattle.mlr_spec.specs.Tree.{Tree}
use Rattle.mlr_value.specs.Value.{tree_of}
use Rattle.mlr_value.specs.declared.value.Value.{Value}
use Rattle.mlr_groups.proofs.Once.{any-at}
use Rattle.verbs_base.specs.Records.{Fields}
use Rattle.verbs_fields.specs.Template.{field_or}
use Rattle.verbs_hold.specs.ByPlace.{no_values, trees_of, values_at}
use Rattle.verbs_hold.specs.Unsparsify.{filled}

pub trees-set : (values : List (Option Value)) (place : ℕ) (value : Value) → trees_of (set values place (Some value)) ≡ set (trees_of values) place (Some (tree_of value))
trees-set [] place value = refl
trees-set (old ∷ values) zero value = refl
trees-set (old ∷ values) (suc place) value = ap (λ trees. option_map tree_of old ∷ trees) (trees-set values place value)

-- The values of the remaining fields, and otherwise those that are in the places.
abbrev pub merged : Fields → List (Option Tree) → List (List ℕ) → List (Option Tree)
merged fields [] names = []
merged fields (value ∷ values) [] = []
merged fields (value ∷ values) (name ∷ names) = option_or (value_at name fields) value ∷ merged fields values names

or-none : (found : Option Tree) → option_or found None ≡ found
or-none None = refl
or-none (Some value) = refl

pub merged-free : (fields : Fields) (names : List (List ℕ)) → merged fields (no_values names) names ≡ values_at names fields
merged-free fields [] = refl
merged-free fields (name ∷ names) = ap₂ (λ x xs. x ∷ xs) (or-none (value_at name fields)) (merged-free fields names)

pub merged-all : (values : List (Option Tree)) (names : List (List ℕ)) → length values ≡ length names → merged [] values names ≡ values
merged-all [] names same = refl
merged-all (value ∷ values) [] same = absurd (cc)
merged-all (value ∷ values) (name ∷ names) same = ap (λ values. value ∷ values) (merged-all values names (cc))

module _ (key : List ℕ) (value : Tree) (fields : Fields) (free : value_at key fields ≡ None) where
  other-value : (name : List ℕ) → bytes_eq key name ≡ false → value_at name ((key, value) ∷ fields) ≡ value_at name fields
  other-value name apart = ap (λ t. cond t (Some value) (value_at name fields)) apart

  merged-apart : (values : List (Option Tree)) (names : List (List ℕ)) → is_among names key ≡ false → merged fields values names ≡ merged ((key, value) ∷ fields) values names
  merged-apart [] names apart = refl
  merged-apart (old ∷ values) [] apart = refl
  merged-apart (old ∷ values) (name ∷ names) apart =
      let parts = or_parts (bytes_eq key name) (is_among names key) apart in
      ap₂ (λ found xs. option_or found old ∷ xs) (sym (other-value name parts.0)) (merged-apart values names parts.1)

  -- the value of the next field is put in the place of its name
  pub merged-put : (values : List (Option Tree)) (names : List (List ℕ)) (place : ℕ) → are_distinct names ≡ true → slice_get names place ≡ Some key
      → merged fields (set values place (Some value)) names ≡ merged ((key, value) ∷ fields) values names
  merged-put [] names place distinct at = refl
  merged-put (old ∷ values) [] place distinct at = absurd (let e : None ≡ Some key = at in cc)
  merged-put (old ∷ values) (name ∷ names) zero distinct at =
      let is : name ≡ key = cc in
      let apart : is_among names name ≡ false = not-true _ (and_parts (not (is_among names name)) (are_distinct names) distinct).0 in
      let here : value_at name fields ≡ None = ap (λ n. value_at n fields) is ∙ free in
      ap₂ (λ found xs. option_or found (Some value) ∷ xs) here (merged-apart values names (ap (is_among names) (sym is) ∙ apart))
      ∙ ap (λ t. option_or (cond t (Some value) (value_at name fields)) old ∷ merged ((key, value) ∷ fields) values names) (sym ((bytes_eq-Decides key name).1 (sym is)))
  merged-put (old ∷ values) (name ∷ names) (suc place) distinct at =
      let parts = and_parts (not (is_among names name)) (are_distinct names) distinct in
      let among : is_among names key ≡ true = any-at bytes_eq bytes_eq-Decides names place key at in
      ap₂ (λ found xs. option_or found old ∷ xs) (sym (other-value name (apart name (not-true _ parts.0) among))) (merged-put values names place parts.1 at)
    where
      apart : (name : List ℕ) → is_among names name ≡ false → is_among names key ≡ true → bytes_eq key name ≡ false
      apart name none among = elim (cases_Bool (bytes_eq key name)) as (λ _. bytes_eq key name ≡ false) [
        | inl same ↦ absurd (true≢false (sym among ∙ ap (is_among names) ((bytes_eq-Decides key name).0 same) ∙ none))
        | inr differs ↦ differs
      ]

-- The record has the fields of the first names, whose values were taken, and the other values are still to be taken.
pub record Gathered (fill : List ℕ) (names : List (List ℕ)) (start : List (Option Value)) (place : ℕ) (values : List (Option Value)) (made : Fields) : Type 0 where
  pub keys : keys_of made ≡ take place names
  pub free : trees_of (take place values) ≡ no_values (take place names)
  pub made_is : (fields : Fields) → trees_of start ≡ values_at names fields → made ≡ filled fill (take place names) fields
  pub left : (fields : Fields) → trees_of start ≡ values_at names fields → trees_of (drop place values) ≡ values_at (drop place names) fields

module _ (fill : List ℕ) (names : List (List ℕ)) (start : List (Option Value)) where
  pub gathered-none : (made : Fields) → made ≡ [] → Gathered fill names start 0 start made
  gathered-none made none = record {
    keys = ap keys_of none;
    free = refl;
    made_is = λ fields same. none;
    left = λ fields same. same;
  }

  module _ (place : ℕ) (name : List ℕ) (values : List (Option Value)) (made : Fields) (any : Option Value)
      (is : name ≡ get_or names place name) (below : place < length names) (room : place < length values) (so_far : Gathered fill names start place values made) where
    pub gathered-free : are_distinct names ≡ true → value_at name made ≡ None
    gathered-free distinct = free-at names place name made distinct so_far.keys below is

    names-more : take (place + 1) names ≡ take place names ++ name ∷ []
    names-more = take_more names place name below ∙ ap (λ n. take place names ++ n ∷ []) (sym is)

    split : (fields : Fields) → trees_of start ≡ values_at names fields
        → option_map tree_of (get_or values place any) ∷ trees_of (drop (place + 1) values) ≡ value_at name fields ∷ values_at (drop (place + 1) names) fields
    split fields same =
        sym (ap trees_of (drop_more values place any room))
        ∙ so_far.left fields same
        ∙ ap (λ names. values_at names fields) (drop_more names place name below)
        ∙ ap (λ n. value_at n fields ∷ values_at (drop (place + 1) names) fields) (sym is)

    pub gathered-more : (value : Tree) → value ≡ unwrap_or (option_map tree_of (get_or values place any)) (text_value fill)
        → Gathered fill names start (place + 1) (set values place None) (made ++ (name, value) ∷ [])
    gathered-more value given = record {
      keys = map-append (λ (pair : List ℕ × Tree). pair.0) made ((name, value) ∷ []) ∙ ap (λ keys. keys ++ name ∷ []) so_far.keys ∙ sym names-more;
      free =
          ap trees_of (take_more_set values place None room)
          ∙ map-append (option_map tree_of) (take place values) (None ∷ [])
          ∙ ap (λ values. values ++ None ∷ []) so_far.free
          ∙ sym (map-append (λ (name : List ℕ). None) (take place names) (name ∷ []))
          ∙ ap no_values (sym names-more);
      made_is = λ fields same. (
          let here : option_map tree_of (get_or values place any) ≡ value_at name fields = let e = split fields same in cc in
          ap₂ (λ made value. made ++ (name, value) ∷ []) (so_far.made_is fields same) (given ∙ ap (λ found. unwrap_or found (text_value fill)) here)
          ∙ sym (map-append (field_or fill fields) (take place names) (name ∷ []))
          ∙ ap (λ names. filled fill names fields) (sym names-more)
          );
      left = λ fields same. ap trees_of (drop-set-lt (place + 1) values place None (omega arith)) ∙ (let e = split fields same in cc);
    }

  pub gathered-all : (place : ℕ) (values : List (Option Value)) (made : Fields) → length names ≤ place → length values ≡ length names → Gathered fill names start place values made
      → (trees_of values ≡ no_values names) × ((fields : Fields) → trees_of start ≡ values_at names fields → made ≡ filled fill names fields)
  gathered-all place values made ended places so_far =
      let names-all = take_all place names ended in
      let values-all = take_all place values (omega arith) in (
        ap trees_of (sym values-all) ∙ so_far.free ∙ ap no_values names-all,
        λ fields same. so_far.made_is fields same ∙ ap (λ names. filled fill names fields) names-all,
      )
