-- Fields that are labelled, one field after another.
use Rattle.std.proofs.Common.{◌≡◌, ℕ, zero, suc, Bool, ◌<◌, ◌≤◌, ◌+◌, ◌-◌, min, true, false, not, List, [], ◌∷◌, ◌++◌, length, take, drop, remove, get_or, set, Vec, Global, Some, None, refl, ap, ap₂, sym, ◌∙◌, inl, inr, arith, add-one}
use Rattle.std.specs.List.{zip, list_any}
use Rattle.std.specs.Str.{bytes_eq}
use Rattle.std.specs.Vec.{with_items}
use Rattle.std.proofs.lemmas.Bool.{cases_Bool, and_parts, and_from, or_parts, or_from, not-true, not_from_false, true≢false}
use Rattle.std.proofs.lemmas.List.{map-append, map-set, take-map, drop-map, take-append-drop, with_items_is, take_at, drop_at, take_min, drop_min, take_all, drop_all, length-map, length-take, length-take-le, get_or_default}
use Rattle.std.proofs.lemmas.List.Edits.{remove-append_right}
use Rattle.std.proofs.Math.ListN.{get_or-map}
use Rattle.std.proofs.lemmas.Slice.Zip.{length-zip}
use Rattle.mlr_spec.specs.Tree.{Tree}
use Rattle.mlr_spec.specs.Pairs.{keys_of, are_distinct, remove_at}
use Rattle.mlr_spec.proofs.Pairs.{are_distinct-remove}
use Rattle.mlr_value.specs.Value.{tree_of}
use Rattle.mlr_record.specs.declared.record.Field.{Field}
use Rattle.mlr_record.specs.Fields.{pairs_of, pair_of, IsPlaceOf}
use Rattle.mlr_event.specs.Reading.{is_among}
use Rattle.verbs_base.specs.Choosing.{dropped}
use Rattle.verbs_fields.specs.Values.{values_of}
use Rattle.verbs_base.proofs.Filters.{are_distinct-filter}
use Rattle.verbs_base.proofs.Picking.{are_distinct-append, dropped-more, dropped-named, dropped-none}
use Rattle.verbs_base.proofs.Places.{remove_at-absent, removed-place}

-- the fields with the names, and of the fields after these those that have none of the names
abbrev pub labelled : List (List ℕ) → List (List ℕ × Tree) → List (List ℕ × Tree)
labelled names pairs = zip names (values_of pairs) ++ dropped names (drop (length names) pairs)

-- the fields before a place, and of the others those that have none of the names
abbrev pub dropped_from : List (List ℕ) → ℕ → List (List ℕ × Tree) → List (List ℕ × Tree)
dropped_from names place pairs = take place pairs ++ dropped names (drop place pairs)

-- the fields before a place with the names, and the others
abbrev pub named_to : List (List ℕ) → ℕ → List (List ℕ × Tree) → List (List ℕ × Tree)
named_to names place pairs = take place (zip names (values_of pairs)) ++ drop place pairs

are_distinct-drop : (n : ℕ) (pairs : List (List ℕ × Tree)) → are_distinct (keys_of pairs) ≡ true → are_distinct (keys_of (drop n pairs)) ≡ true
are_distinct-drop zero pairs distinct = distinct
are_distinct-drop (suc n) [] distinct = distinct
are_distinct-drop (suc n) (p ∷ pairs) distinct =
    are_distinct-drop n pairs (and_parts (not (list_any (bytes_eq p.0) (keys_of pairs))) (are_distinct (keys_of pairs)) distinct).1

-- the fields from a place on that have one of the names before were dropped, and these names are left
pub record IsDropping (names left : List (List ℕ)) (first : ℕ) (all : List (List ℕ × Tree)) (fields : List Field) : Type 0 where
  pub long : first ≤ length fields
  pub same : take first (pairs_of fields) ≡ take first all
  pub distinct : are_distinct (keys_of (pairs_of (drop first fields))) ≡ true
  pub drops : dropped left (pairs_of (drop first fields)) ≡ dropped names (drop first all)

pub dropping-begun : (names : List (List ℕ)) (first : ℕ) (fields : List Field) → first ≤ length fields → are_distinct (keys_of (pairs_of fields)) ≡ true
    → IsDropping names names first (pairs_of fields) fields
dropping-begun names first fields long distinct =
    let is = drop-map pair_of first fields in
    record {
      long = long;
      same = refl;
      distinct = ap (λ x. are_distinct (keys_of x)) (sym is) ∙ are_distinct-drop first (pairs_of fields) distinct;
      drops = ap (dropped names) (sym is);
    }

-- no field from the place on has the next name
pub dropping-absent : (names left : List (List ℕ)) (name : List ℕ) (first : ℕ) (all : List (List ℕ × Tree)) (fields : List Field)
    → IsPlaceOf name (drop first fields) None → IsDropping names (name ∷ left) first all fields → IsDropping names left first all fields
dropping-absent names left name first all fields absent was =
    record {
      long = was.long;
      same = was.same;
      distinct = was.distinct;
      drops =
          sym (dropped-more name left (pairs_of (drop first fields)) was.distinct ∙ ap (dropped left) (remove_at-absent name (drop first fields) absent))
          ∙ was.drops;
    }

removed-found : (name : List ℕ) (fields : List Field) (i : ℕ) → IsPlaceOf name fields (Some i) → pairs_of (remove fields i) ≡ remove_at name (pairs_of fields)
removed-found name [] i place = absurd (let e : i < 0 = place.0 in omega (arith, e))
removed-found name (f ∷ fields) i place =
    let d = get_or (f ∷ fields) i f in
    removed-place name (f ∷ fields) i d (get_or_default (f ∷ fields) i f d place.0) place

-- the field with the next name was removed
pub dropping-found : (names left : List (List ℕ)) (name : List ℕ) (first i : ℕ) (all : List (List ℕ × Tree)) (fields : List Field)
    → IsPlaceOf name (drop first fields) (Some i) → IsDropping names (name ∷ left) first all fields → IsDropping names left first all (remove fields (first + i))
dropping-found names left name first i all fields place was =
    let before = length-take-le first fields was.long in
    let split : remove fields (first + i) ≡ take first fields ++ remove (drop first fields) i =
    ap (λ xs. remove xs (first + i)) (sym (take-append-drop first fields))
    ∙ remove-append_right (take first fields) (drop first fields) first (first + i) before (omega arith)
    ∙ ap (λ n. take first fields ++ remove (drop first fields) n) (let e : first + i - first ≡ i = omega arith in e) in
    let kept : take first (remove fields (first + i)) ≡ take first fields = ap (take first) split ∙ take_at (take first fields) (remove (drop first fields) i) first before in
    let rest : pairs_of (drop first (remove fields (first + i))) ≡ remove_at name (pairs_of (drop first fields)) =
    ap (λ xs. pairs_of (drop first xs)) split
    ∙ ap pairs_of (drop_at (take first fields) (remove (drop first fields) i) first before)
    ∙ removed-found name (drop first fields) i place in
    record {
      long = let e = ap length kept in let l = length-take-le first fields was.long in let m = length-take first (remove fields (first + i)) in omega (arith, e, l, m);
      same = take-map pair_of first (remove fields (first + i)) ∙ ap pairs_of kept ∙ sym (take-map pair_of first fields) ∙ was.same;
      distinct = ap (λ x. are_distinct (keys_of x)) rest ∙ are_distinct-remove name (pairs_of (drop first fields)) was.distinct;
      drops = ap (dropped left) rest ∙ sym (dropped-more name left (pairs_of (drop first fields)) was.distinct) ∙ was.drops;
    }

-- no name is left
pub dropping-ended : (names : List (List ℕ)) (i : ℕ) (all : List (List ℕ × Tree)) (fields : List Field) → length names ≤ i
    → IsDropping names (drop i names) (min (length names) (length all)) all fields → pairs_of fields ≡ dropped_from names (length names) all
dropping-ended names i all fields past was =
    let first = min (length names) (length all) in
    sym (take-append-drop first (pairs_of fields))
    ∙ ap₂ (λ x y. x ++ y)
    (was.same ∙ take_min (length names) all)
    (drop-map pair_of first fields
    ∙ sym (dropped-none (pairs_of (drop first fields)))
    ∙ ap (λ left. dropped left (pairs_of (drop first fields))) (sym (drop_all i names past))
    ∙ was.drops
    ∙ ap (dropped names) (drop_min (length names) all))

-- the field at a place gets its name
pub named_to-later : (names : List (List ℕ)) (place : ℕ) (pairs : List (List ℕ × Tree)) (name : List ℕ) (d : List ℕ × Tree) → place < length names → place < length pairs
    → set (named_to names place pairs) place (get_or names place name, (get_or (named_to names place pairs) place d).1) ≡ named_to names (suc place) pairs
named_to-later [] place pairs name d below within = absurd (omega arith)
named_to-later (n ∷ names) place [] name d below within = absurd (omega arith)
named_to-later (n ∷ names) zero (p ∷ pairs) name d below within = refl
named_to-later (n ∷ names) (suc place) (p ∷ pairs) name d below within = ap (λ x. (n, p.1) ∷ x) (named_to-later names place pairs name d (omega arith) (omega arith))

-- the same of fields
pub named_to-step : (names : List (List ℕ)) (place : ℕ) (pairs : List (List ℕ × Tree)) (fields : List Field) (name item : List ℕ) (f : Field) → place < length names → place < length pairs
    → pairs_of fields ≡ named_to names place pairs → name ≡ get_or names place item
    → pairs_of (set fields place (record { name = name; value = (get_or fields place f).value })) ≡ named_to names (place + 1) pairs
named_to-step names place pairs fields name item f below within is here =
    let value : tree_of (get_or fields place f).value ≡ (get_or (pairs_of fields) place (pair_of f)).1 = sym (ap (λ (pair : List ℕ × Tree). pair.1) (get_or-map pair_of fields place f)) in
    map-set pair_of fields place (record { name = name; value = (get_or fields place f).value })
    ∙ ap₂ (λ n v. set (pairs_of fields) place (n, v)) here value
    ∙ ap (λ xs. set xs place (get_or names place item, (get_or xs place (pair_of f)).1)) is
    ∙ named_to-later names place pairs item (pair_of f) below within
    ∙ ap (λ n. named_to names n pairs) (sym (add-one place))

pub named_to-end : (names : List (List ℕ)) (pairs : List (List ℕ × Tree)) → named_to names (min (length names) (length pairs)) pairs ≡ zip names (values_of pairs) ++ drop (length names) pairs
named_to-end names pairs =
    let long : length (zip names (values_of pairs)) ≡ min (length names) (length pairs) =
    length-zip names (values_of pairs) ∙ ap (min (length names)) (length-map pairs (λ (pair : List ℕ × Tree). pair.1)) in
    ap₂ (λ x y. x ++ y) (take_all (min (length names) (length pairs)) (zip names (values_of pairs)) (omega arith)) (drop_min (length names) pairs)

-- fields that are named after others were dropped
pub labelled-dropped : (names left : List (List ℕ)) (pairs : List (List ℕ × Tree))
    → zip left (values_of (dropped_from names (length left) pairs)) ++ drop (length left) (dropped_from names (length left) pairs) ≡ zip left (values_of pairs) ++ dropped names (drop (length left) pairs)
labelled-dropped names [] pairs = refl
labelled-dropped names (name ∷ left) [] = refl
labelled-dropped names (name ∷ left) (p ∷ pairs) = ap (λ x. (name, p.1) ∷ x) (labelled-dropped names left pairs)

-- the same of a vector, which was lent as a slice
pub labelled-lent : (names : List (List ℕ)) (pairs : List (List ℕ × Tree)) (fields : Vec Field Global) (lent after : List Field)
    → pairs_of fields.items ≡ dropped_from names (length names) pairs → lent ≡ fields.items → length after ≡ fields.len
    → pairs_of after ≡ zip names (values_of (pairs_of lent)) ++ drop (length names) (pairs_of lent)
    → pairs_of (with_items fields after).items ≡ labelled names pairs
labelled-lent names pairs fields lent after left whole long named =
    ap pairs_of (with_items_is fields after long)
    ∙ named
    ∙ ap (λ others. zip names (values_of others) ++ drop (length names) others) (ap pairs_of whole ∙ left)
    ∙ labelled-dropped names names pairs

any-zip : (test : List ℕ → Bool) (names : List (List ℕ)) (values : List Tree) → list_any test names ≡ false → list_any test (keys_of (zip names values)) ≡ false
any-zip test [] values none = refl
any-zip test (name ∷ names) [] none = refl
any-zip test (name ∷ names) (value ∷ values) none =
    let parts = or_parts (test name) (list_any test names) none in
    or_from _ _ parts.0 (any-zip test names values parts.1)

are_distinct-zip : (names : List (List ℕ)) (values : List Tree) → are_distinct names ≡ true → are_distinct (keys_of (zip names values)) ≡ true
are_distinct-zip [] values distinct = refl
are_distinct-zip (name ∷ names) [] distinct = refl
are_distinct-zip (name ∷ names) (value ∷ values) distinct =
    let parts = and_parts (not (list_any (bytes_eq name) names)) (are_distinct names) distinct in
    and_from _ _ (not_from_false _ (any-zip (bytes_eq name) names values (not-true _ parts.0))) (are_distinct-zip names values parts.1)

pub are_distinct-labelled : (names : List (List ℕ)) (pairs : List (List ℕ × Tree)) → are_distinct names ≡ true → are_distinct (keys_of pairs) ≡ true → are_distinct (keys_of (labelled names pairs)) ≡ true
are_distinct-labelled names pairs once distinct =
    let prefix = zip names (values_of pairs) in
    let following = drop (length names) pairs in
    ap are_distinct (map-append (λ (pair : List ℕ × Tree). pair.0) prefix (dropped names following))
    ∙ are_distinct-append (keys_of prefix) (keys_of (dropped names following)) (are_distinct-zip names (values_of pairs) once)
    (are_distinct-filter (λ pair. not (is_among names pair.0)) following (are_distinct-drop (length names) pairs distinct)) (λ key among.
    elim (cases_Bool (is_among names key)) as (λ _. is_among (keys_of (dropped names following)) key ≡ false) [
      | inl is ↦ dropped-named names following key is
      | inr isnt ↦ absurd (true≢false (sym among ∙ any-zip (bytes_eq key) names (values_of pairs) isnt))
    ])
