-- The names of a record's fields, in the record's order and sorted.
use Rattle.std.proofs.Common.{Bor, ◌≡◌, ℕ, ◌+◌, ◌<◌, Bool, true, false, cond, not, List, [], ◌∷◌, ◌++◌, map, length, drop, take, get_or, Some, slice_get, refl, ap, sym, ◌∙◌, append_assoc, arith}
use Rattle.std.specs.List.{filter, filter_map, list_any}
use Rattle.std.specs.Option.{option_map}
use Rattle.std.specs.Str.{bytes_eq}
use Rattle.std.proofs.lemmas.Bool.{and_from, and_parts, not-true, not_from_false, or_from, or_parts}
use Rattle.std.proofs.lemmas.List.{take_more_same}
use Rattle.std.proofs.lemmas.Option.{get_or_from_slice_get, slice_get-map}
use Rattle.std.proofs.lemmas.Slice.Eq.{bytes_eq-Decides}
use Rattle.mlr_spec.specs.Tree.{Tree, absent}
use Rattle.mlr_spec.specs.Pairs.{are_distinct, keys_of}
use Rattle.mlr_spec.proofs.Flattening.{drop-more}
use Rattle.mlr_event.specs.Reading.{is_among}
use Rattle.mlr_event.proofs.Distinct.{bytes_eq-swap}
use Rattle.mlr_event.proofs.Putting.{length-keys}
use Rattle.verbs_base.specs.Choosing.{named, once, picked}
use Rattle.verbs_fields.specs.Sorting.{by_name, insert_by_name, is_before}
use Rattle.verbs_state.specs.Regularize.{sorted_names}
use Rattle.verbs_base.specs.Records.{Fields}

-- one more name after those that were taken
pub names-more : (into after : List (List ℕ)) (pairs : Fields) (place : ℕ) (entry : List ℕ × Tree) → slice_get pairs place ≡ Some entry → after ≡ into ++ entry.0 ∷ [] → into ++ keys_of (drop place pairs) ≡ keys_of pairs
    → after ++ keys_of (drop (place + 1) pairs) ≡ keys_of pairs
names-more into after pairs place entry at pushed so_far =
    ap (λ x. x ++ keys_of (drop (place + 1) pairs)) pushed
    ∙ append_assoc into (entry.0 ∷ []) (keys_of (drop (place + 1) pairs))
    ∙ sym (ap (λ left. into ++ keys_of left) (drop-more pairs place entry at))
    ∙ so_far

-- one more name that is the name of the field at its place
pub names-same : (names : List (List ℕ)) (pairs : Fields) (place : ℕ) (name : List ℕ) (entry : List ℕ × Tree) → place < length names → length names ≡ length pairs → name ≡ get_or names place name → slice_get pairs place ≡ Some entry
    → false ≡ not (bytes_eq name entry.0) → take place names ≡ take place (keys_of pairs) → take (place + 1) names ≡ take (place + 1) (keys_of pairs)
names-same names pairs place name entry below count is at same so_far =
    let key : get_or (keys_of pairs) place name ≡ entry.0 =
    get_or_from_slice_get (keys_of pairs) place entry.0 name (slice_get-map (λ (pair : List ℕ × Tree). pair.0) pairs place ∙ ap (option_map (λ (pair : List ℕ × Tree). pair.0)) at) in
    take_more_same names (keys_of pairs) place name below (omega (arith, below, count, length-keys pairs)) so_far
    (sym is ∙ (bytes_eq-Decides name entry.0).0 (equal (bytes_eq name entry.0) same) ∙ sym key)
  where
    equal : (t : Bool) → false ≡ not t → t ≡ true
    equal true same = refl
    equal false same = same

-- a name inserted into sorted names
insert_name : List ℕ → List (List ℕ) → List (List ℕ)
insert_name name [] = name ∷ []
insert_name name (other ∷ names) = cond (is_before other name) (other ∷ insert_name name names) (name ∷ other ∷ names)

names_sorted : List (List ℕ) → List (List ℕ)
names_sorted [] = []
names_sorted (name ∷ names) = insert_name name (names_sorted names)

keys-inserted : (pair : List ℕ × Tree) (pairs : Fields) → keys_of (insert_by_name pair pairs) ≡ insert_name pair.0 (keys_of pairs)
unfolding insert_name
keys-inserted pair [] = refl
keys-inserted pair (other ∷ pairs) = by_order (keys-inserted pair pairs) (is_before other.0 pair.0)
  where
    by_order : keys_of (insert_by_name pair pairs) ≡ insert_name pair.0 (keys_of pairs) → (t : Bool) → keys_of (cond t (other ∷ insert_by_name pair pairs) (pair ∷ other ∷ pairs)) ≡ cond t (other.0 ∷ insert_name pair.0 (keys_of pairs)) (pair.0 ∷ other.0 ∷ keys_of pairs)
    by_order more true = ap (λ names. other.0 ∷ names) more
    by_order more false = refl

keys-by_name : (pairs : Fields) → keys_of (by_name pairs) ≡ names_sorted (keys_of pairs)
unfolding names_sorted
keys-by_name [] = refl
keys-by_name (pair ∷ pairs) = keys-inserted pair (by_name pairs) ∙ ap (insert_name pair.0) (keys-by_name pairs)

keys-bare : (names : List (List ℕ)) → keys_of (map (λ name. (name, absent)) names) ≡ names
keys-bare [] = refl
keys-bare (name ∷ names) = ap (λ more. name ∷ more) (keys-bare names)

-- the names sorted are the names of the sorted fields
pub sorted_names-keys : (pairs : Fields) → sorted_names (keys_of pairs) ≡ keys_of (by_name pairs)
sorted_names-keys pairs =
    keys-by_name (map (λ name. (name, absent)) (keys_of pairs)) ∙ ap names_sorted (keys-bare (keys_of pairs)) ∙ sym (keys-by_name pairs)

filter-others : (name : List ℕ) (names : List (List ℕ)) → list_any (bytes_eq name) names ≡ false → filter (λ other. not (bytes_eq name other)) names ≡ names
filter-others name [] none = refl
filter-others name (n ∷ names) none =
    let parts = or_parts (bytes_eq name n) (list_any (bytes_eq name) names) none in
    rw parts.0 (ap (λ more. n ∷ more) (filter-others name names parts.1))

once-distinct : (names : List (List ℕ)) → are_distinct names ≡ true → once names ≡ names
once-distinct [] distinct = refl
once-distinct (name ∷ names) distinct =
    let parts = and_parts (not (list_any (bytes_eq name) names)) (are_distinct names) distinct in
    ap (λ more. name ∷ filter (λ other. not (bytes_eq name other)) more) (once-distinct names parts.1)
    ∙ ap (λ more. name ∷ more) (filter-others name names (not-true _ parts.0))

-- looking up other names in a record doesn't find its first field
named-later : (pair : List ℕ × Tree) (pairs : Fields) (names : List (List ℕ)) → list_any (bytes_eq pair.0) names ≡ false → filter_map (named (pair ∷ pairs)) names ≡ filter_map (named pairs) names
named-later pair pairs [] none = refl
named-later pair pairs (n ∷ names) none =
    let parts = or_parts (bytes_eq pair.0 n) (list_any (bytes_eq pair.0) names) none in
    rw parts.0 (rw (named-later pair pairs names parts.1) refl)

named-own : (pairs : Fields) → are_distinct (keys_of pairs) ≡ true → filter_map (named pairs) (keys_of pairs) ≡ pairs
named-own [] distinct = refl
named-own (pair ∷ pairs) distinct =
    let parts = and_parts (not (list_any (bytes_eq pair.0) (keys_of pairs))) (are_distinct (keys_of pairs)) distinct in
    rw ((bytes_eq-Decides pair.0 pair.0).1 refl) (ap (λ more. pair ∷ more) (named-later pair pairs (keys_of pairs) (not-true _ parts.0) ∙ named-own pairs parts.1))

-- a record's fields, picked by their own names
pub picked-own : (pairs : Fields) → are_distinct (keys_of pairs) ≡ true → picked (keys_of pairs) pairs ≡ pairs
picked-own pairs distinct = ap (filter_map (named pairs)) (once-distinct (keys_of pairs) distinct) ∙ named-own pairs distinct

-- distinct texts with one more that isn't among them are distinct
pub distinct-push : (texts : List (List ℕ)) (text : List ℕ) → are_distinct texts ≡ true → is_among texts text ≡ false → are_distinct (texts ++ text ∷ []) ≡ true
distinct-push [] text distinct new = refl
distinct-push (first ∷ texts) text distinct new =
    let parts = and_parts (not (list_any (bytes_eq first) texts)) (are_distinct texts) distinct in
    let apart = or_parts (bytes_eq text first) (list_any (bytes_eq text) texts) new in
    and_from _ _ (not_from_false _ (any-push texts (not-true _ parts.0) (bytes_eq-swap first text ∙ apart.0))) (distinct-push texts text parts.1 apart.1)
  where
    any-push : (more : List (List ℕ)) → list_any (bytes_eq first) more ≡ false → bytes_eq first text ≡ false → list_any (bytes_eq first) (more ++ text ∷ []) ≡ false
    any-push [] none other = or_from _ _ other refl
    any-push (n ∷ more) none other = let sides = or_parts (bytes_eq first n) (list_any (bytes_eq first) more) none in or_from _ _ sides.0 (any-push more sides.1 other)

-- borrowed names, as sorting takes them
abbrev pub bare : Bor (List ℕ) → List ℕ × Tree
bare name = (name.now, absent)

pub keys-bare-names : (names : List (Bor (List ℕ))) → keys_of (map bare names) ≡ map (λ name. name.now) names
keys-bare-names [] = refl
keys-bare-names (name ∷ names) = ap (λ more. name.now ∷ more) (keys-bare-names names)

pub bare-names : (names : List (Bor (List ℕ))) → map bare names ≡ map (λ name. (name, absent)) (map (λ name. name.now) names)
bare-names [] = refl
bare-names (name ∷ names) = ap (λ more. (name.now, absent) ∷ more) (bare-names names)
