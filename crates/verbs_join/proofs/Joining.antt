-- The fields of a pair, put one after another.
use Rattle.std.proofs.Common.{◌≡◌, ℕ, zero, suc, ◌+◌, List, [], ◌∷◌, ◌++◌, drop, not, None, Some, slice_get, refl, ap, sym, ◌∙◌, add-one}
use Rattle.std.specs.List.{cons_option, filter_map, zip}
use Rattle.std.specs.Option.{option_map}
use Rattle.std.proofs.lemmas.List.{map-append}
use Rattle.std.proofs.lemmas.List.Elements.{filter-append, filter_map-append}
use Rattle.mlr_event.specs.Reading.{is_among}
use Rattle.mlr_spec.specs.Pairs.{put_at, put_each, value_at}
use Rattle.mlr_spec.specs.Tree.{Tree}
use Rattle.mlr_spec.proofs.Flattening.{put_each-append}
use Rattle.verbs_base.specs.Choosing.{dropped}
use Rattle.verbs_base.specs.Records.{Fields}
use Rattle.verbs_join.specs.Join.{joined_field, prefixed}

zip-none : {A B : Type 0} (xs : List A) → zip {K = A} {X = B} xs [] ≡ []
zip-none [] = refl
zip-none (x ∷ xs) = refl

zip-next : {A B : Type 0} (x : A) (xs : List A) (p : ℕ) (ys : List B) → zip (x ∷ xs) (drop p ys) ≡ zip (x ∷ []) (drop p ys) ++ zip xs (drop (suc p) ys)
zip-next x xs zero [] = sym (zip-none xs)
zip-next x xs zero (y ∷ ys) = refl
zip-next x xs (suc p) [] = sym (zip-none xs)
zip-next x xs (suc p) (y ∷ ys) = zip-next x xs p ys

-- the join field at a place, and those after it
pub joined-next : (left into : Fields) (output : List ℕ) (outputs : List (List ℕ)) (p : ℕ) (names : List (List ℕ))
    → put_each (put_each into (filter_map (joined_field left) (zip (output ∷ []) (drop p names)))) (filter_map (joined_field left) (zip outputs (drop (p + 1) names)))
    ≡ put_each into (filter_map (joined_field left) (zip (output ∷ outputs) (drop p names)))
joined-next left into output outputs p names =
    let first = filter_map (joined_field left) (zip (output ∷ []) (drop p names)) in
    ap (λ following. put_each (put_each into first) (filter_map (joined_field left) (zip outputs (drop following names)))) (add-one p)
    ∙ sym (put_each-append into first (filter_map (joined_field left) (zip outputs (drop (suc p) names))))
    ∙ ap (put_each into) (sym (filter_map-append (joined_field left) (zip (output ∷ []) (drop p names)) (zip outputs (drop (suc p) names))))
    ∙ ap (λ fields. put_each into (filter_map (joined_field left) fields)) (sym (zip-next output outputs p names))

-- a field, and those after it
pub others-next : (prefix : List ℕ → List ℕ) (names : List (List ℕ)) (into : Fields) (field : List ℕ × Tree) (fields : Fields)
    → put_each (put_each into (prefixed prefix (dropped names (field ∷ [])))) (prefixed prefix (dropped names fields))
    ≡ put_each into (prefixed prefix (dropped names (field ∷ fields)))
others-next prefix names into field fields =
    sym (put_each-append into (prefixed prefix (dropped names (field ∷ []))) (prefixed prefix (dropped names fields)))
    ∙ ap (put_each into)
    (sym (map-append (λ field. (prefix field.0 ++ field.0, field.1)) (dropped names (field ∷ [])) (dropped names fields))
    ∙ ap (prefixed prefix) (sym (filter-append (λ pair. not (is_among names pair.0)) (field ∷ []) fields)))

drop-past : {A : Type 0} (xs : List A) (p : ℕ) → slice_get xs p ≡ None → drop p xs ≡ []
drop-past [] zero none = refl
drop-past [] (suc p) none = refl
drop-past (x ∷ xs) zero none = absurd (let e : Some x ≡ None = none in cc)
drop-past (x ∷ xs) (suc p) none = drop-past xs p none

drop-at : {A : Type 0} (xs : List A) (p : ℕ) (x : A) → slice_get xs p ≡ Some x → drop p xs ≡ x ∷ drop (suc p) xs
drop-at [] p x at = absurd (let e : None ≡ Some x = at in cc)
drop-at (y ∷ xs) zero x at = let e : y ≡ x = cc in ap (λ y. y ∷ xs) e
drop-at (y ∷ xs) (suc p) x at = drop-at xs p x at

module _ (left into : Fields) (output : List ℕ) (names : List (List ℕ)) (p : ℕ) where
  -- there is no join field at the place
  pub joined-past : slice_get names p ≡ None → put_each into (filter_map (joined_field left) (zip (output ∷ []) (drop p names))) ≡ into
  joined-past none = ap (λ names. put_each into (filter_map (joined_field left) (zip (output ∷ []) names))) (drop-past names p none)

  module _ (name : List ℕ) (at : slice_get names p ≡ Some name) where
    joined-one : put_each into (filter_map (joined_field left) (zip (output ∷ []) (drop p names))) ≡ put_each into (filter_map (joined_field left) ((output, name) ∷ []))
    joined-one = ap (λ names. put_each into (filter_map (joined_field left) (zip (output ∷ []) names))) (drop-at names p name at)

    -- the left record has it, or doesn't
    pub joined-some : (value : Tree) → value_at name left ≡ Some value → put_each into (filter_map (joined_field left) (zip (output ∷ []) (drop p names))) ≡ put_at output value into
    joined-some value is = joined-one ∙ ap (λ value. put_each into (cons_option (option_map (λ value. (output, value)) value) [])) is

    pub joined-none : value_at name left ≡ None → put_each into (filter_map (joined_field left) (zip (output ∷ []) (drop p names))) ≡ into
    joined-none none = joined-one ∙ ap (λ value. put_each into (cons_option (option_map (λ value. (output, value)) value) [])) none

-- the three parts of a pair, put one after another
pub built : (start first second whole join others more : Fields) → start ≡ [] → first ≡ put_each start join → second ≡ put_each first others → whole ≡ put_each second more
    → whole ≡ put_each [] (join ++ others ++ more)
built start first second whole join others more empty joins puts ends =
    ends ∙ ap (λ made. put_each made more) (puts ∙ ap (λ made. put_each made others) (joins ∙ ap (λ made. put_each made join) empty))
    ∙ sym (put_each-append [] (join ++ others) more ∙ ap (λ made. put_each made more) (put_each-append [] join others))
