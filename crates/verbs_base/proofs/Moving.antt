-- Fields that are moved to the start by names, one name after another.
use Rattle.std.proofs.Common.{◌≡◌, ℕ, ◌+◌, ◌-◌, ◌<◌, ◌≤◌, Bool, true, cond, List, [], ◌∷◌, ◌++◌, length, take, drop, remove, get_or, Option, Some, None, refl, ap, ap₂, sym, ◌∙◌, arith, append_assoc, add-one, length-take, length-drop}
use borrow.Rule.Slice.PartMut.{put_mid}
use Rattle.std.specs.List.{cons_option, filter_map}
use Rattle.std.specs.Option.{is_some, option_map, option_to_list}
use Rattle.std.proofs.lemmas.List.{append-nil, map-append, take-map, drop-map, take_more, take_rest, drop_all, get_or_default, take_at, drop_at, length-take-le, length-append}
use Rattle.mlr_spec.specs.Tree.{Tree}
use Rattle.mlr_spec.specs.Pairs.{remove_at, keys_of, are_distinct, value_at}
use Rattle.mlr_spec.proofs.Pairs.{are_distinct-remove}
use Rattle.mlr_record.specs.declared.record.Field.{Field}
use Rattle.mlr_record.specs.Fields.{pairs_of, pair_of, IsPlaceOf}
use Rattle.verbs_base.specs.Choosing.{named, once, picked, dropped}
use Rattle.verbs_base.specs.Placing.{IsPlaced}
use Rattle.verbs_base.proofs.Picking.{picked-more, dropped-more, dropped-none}
use Rattle.verbs_base.proofs.Places.{named-absent, named-place, remove_at-absent, removed-place}

-- the fields up to a place, rotated by one
rotated : (fields prefix : List Field) (i : ℕ) (d : Field) → i < length fields
    → prefix ≡ drop (length (take (i + 1) fields) - 1) (take (i + 1) fields) ++ take (length (take (i + 1) fields) - 1) (take (i + 1) fields)
    → prefix ++ drop (i + 1) fields ≡ get_or fields i d ∷ remove fields i
rotated fields prefix i d below turned =
    let k : length (take (i + 1) fields) - 1 ≡ i = let l = length-take (i + 1) fields in omega arith in
    let long : length (take i fields) ≡ i = length-take-le i fields (omega arith) in
    let last = get_or fields i d ∷ [] in
    let is : prefix ≡ get_or fields i d ∷ take i fields =
    turned
    ∙ ap (λ m. drop m (take (i + 1) fields) ++ take m (take (i + 1) fields)) k
    ∙ ap (λ xs. drop i xs ++ take i xs) (take_more fields i d below)
    ∙ ap₂ (λ x y. x ++ y) (drop_at (take i fields) last i long) (take_at (take i fields) last i long) in
    ap (λ x. x ++ drop (i + 1) fields) is ∙ ap (λ m. get_or fields i d ∷ (take i fields ++ drop m fields)) (add-one i)

pub some-at : (fields : List Field) (i : ℕ) → i < length fields → (d : Field) × (d ≡ get_or fields i d)
some-at [] i below = absurd (omega arith)
some-at (f ∷ fields) i below = let d = get_or (f ∷ fields) i f in (d, get_or_default (f ∷ fields) i f d below)

pub found_some : (key : List ℕ) (fields : List Field) (i : ℕ) → IsPlaceOf key fields (Some i) → true ≡ is_some (named (pairs_of fields) key)
found_some key fields i place = let some = some-at fields i place.0 in ap is_some (named-place key fields i some.0 some.1 place)

-- no field has the name
pub placed-absent : (keeps_order : Bool) (key : List ℕ) (fields : List Field) → are_distinct (keys_of (pairs_of fields)) ≡ true → IsPlaceOf key fields None
    → IsPlaced keeps_order key (pairs_of fields) (pairs_of fields)
placed-absent keeps_order key fields distinct absent = record {
  others = pairs_of fields;
  after_is = sym (ap (λ found. cons_option found (pairs_of fields)) (named-absent key fields absent));
  same = record { distinct = distinct; values = λ name. ap (value_at name) (sym (remove_at-absent key fields absent)) };
  kept = λ _. sym (remove_at-absent key fields absent);
}

-- the fields up to the one with the name were rotated by one
pub placed-rotated : (keeps_order : Bool) (key : List ℕ) (fields prefix : List Field) (i : ℕ) → are_distinct (keys_of (pairs_of fields)) ≡ true → IsPlaceOf key fields (Some i)
    → prefix ≡ drop (length (take (i + 1) fields) - 1) (take (i + 1) fields) ++ take (length (take (i + 1) fields) - 1) (take (i + 1) fields)
    → IsPlaced keeps_order key (pairs_of fields) (pairs_of (prefix ++ drop (i + 1) fields))
placed-rotated keeps_order key fields prefix i distinct place turned =
    let some = some-at fields i place.0 in
    record {
      others = remove_at key (pairs_of fields);
      after_is =
          ap pairs_of (rotated fields prefix i some.0 place.0 turned ∙ ap (λ f. f ∷ remove fields i) (sym some.1))
          ∙ ap₂ cons_option (named-place key fields i some.0 some.1 place) (removed-place key fields i some.0 some.1 place);
      same = record { distinct = are_distinct-remove key (pairs_of fields) distinct; values = λ _. refl };
      kept = λ _. refl;
    }

-- a part up to the end that was written
pub put-end : (a : ℕ) (xs ys : List Field) → put_mid a (length xs - a) xs ys ≡ take a xs ++ ys
put-end a xs ys =
    ap (λ past. take a xs ++ (ys ++ past)) (drop_all (length xs - a) (drop a xs) (let l = length-drop a xs in omega arith)) ∙ ap (λ x. take a xs ++ x) (append-nil ys)

-- Of all fields, those that are taken so far stand before the rest. The names that are left pick from the rest what all names pick
-- from all fields, and drop from it what all names drop, if the order is kept.
abbrev pub IsPlacing : (keeps_order : Bool) (names left : List (List ℕ)) (all taken rest : List (List ℕ × Tree)) → Type 0
IsPlacing keeps_order names left all taken rest = record {
  distinct : are_distinct (keys_of rest) ≡ true;
  picks : taken ++ picked left rest ≡ picked names all;
  drops : keeps_order ≡ true → dropped left rest ≡ dropped names all;
}

-- the rest of the fields from a place on, as a slice reads it
pub part-is : (fields : List Field) (count : ℕ) → pairs_of (take (length fields - count) (drop count fields)) ≡ drop count (pairs_of fields)
part-is fields count = ap pairs_of (take_rest fields count) ∙ sym (drop-map pair_of count fields)

pub one-more : (o : Option (List ℕ × Tree)) (xs ys : List (List ℕ × Tree)) → (xs ++ option_to_list o) ++ ys ≡ xs ++ cons_option o ys
one-more None xs ys = ap (λ x. x ++ ys) (append-nil xs)
one-more (Some x) xs ys = append_assoc xs (x ∷ []) ys

length-one : (o : Option (List ℕ × Tree)) (xs : List (List ℕ × Tree)) (count : ℕ) → length xs ≡ count → length (xs ++ option_to_list o) ≡ cond (is_some o) (count + 1) count
length-one None xs count is = ap length (append-nil xs) ∙ is
length-one (Some x) xs count is = length-append xs (x ∷ []) ∙ ap (λ n. n + 1) is

-- names pick the same of fields with the same values
found-same : (pairs others : List (List ℕ × Tree)) → ((name : List ℕ) → value_at name pairs ≡ value_at name others) → (names : List (List ℕ)) → filter_map (named pairs) names ≡ filter_map (named others) names
found-same pairs others same [] = refl
found-same pairs others same (n ∷ names) = ap₂ (λ v fields. cons_option (option_map (λ value. (n, value)) v) fields) (same n) (found-same pairs others same names)

-- one name more, where the rest of the fields begins at a place
pub places : (keeps_order : Bool) (names left : List (List ℕ)) (name : List ℕ) (all : List (List ℕ × Tree)) (fields rest : List Field) (count n : ℕ)
    → count ≤ length (pairs_of fields) → IsPlacing keeps_order names (name ∷ left) all (take count (pairs_of fields)) (drop count (pairs_of fields))
    → IsPlaced keeps_order name (pairs_of (take (length fields - count) (drop count fields))) (pairs_of rest)
    → n ≡ cond (is_some (named (pairs_of (take (length fields - count) (drop count fields))) name)) (count + 1) count
    → (n ≤ length (pairs_of (put_mid count (length fields - count) fields rest)))
    × IsPlacing keeps_order names left all (take n (pairs_of (put_mid count (length fields - count) fields rest))) (drop n (pairs_of (put_mid count (length fields - count) fields rest)))
places keeps_order names left name all fields rest count n within placing placed counted =
    let before = take count (pairs_of fields) in
    let others = drop count (pairs_of fields) in
    let found = named others name in
    let taken = before ++ option_to_list found in
    let whole : pairs_of (put_mid count (length fields - count) fields rest) ≡ taken ++ placed.others =
    ap pairs_of (put-end count fields rest)
    ∙ map-append pair_of (take count fields) rest
    ∙ ap₂ (λ x y. x ++ y) (sym (take-map pair_of count fields)) (placed.after_is ∙ ap (λ x. cons_option (named x name) placed.others) (part-is fields count))
    ∙ sym (one-more found before placed.others) in
    let long : length taken ≡ n =
    length-one found before count (length-take-le count (pairs_of fields) within) ∙ sym (counted ∙ ap (λ x. cond (is_some (named x name)) (count + 1) count) (part-is fields count)) in
    let first = ap (take n) whole ∙ take_at taken placed.others n long in
    let second = ap (drop n) whole ∙ drop_at taken placed.others n long in
    let same : (key : List ℕ) → value_at key placed.others ≡ value_at key (remove_at name others) = λ key. placed.same.values key ∙ ap (λ x. value_at key (remove_at name x)) (part-is fields count) in (
      let e = ap length whole in let l = length-append taken placed.others in omega arith,
      record {
        distinct = ap (λ x. are_distinct (keys_of x)) second ∙ placed.same.distinct;
        picks =
            ap₂ (λ x y. x ++ picked left y) first second
            ∙ ap (λ x. taken ++ x) (found-same placed.others (remove_at name others) same (once left))
            ∙ one-more found before (picked left (remove_at name others))
            ∙ ap (λ x. before ++ x) (sym (picked-more name others placing.distinct left))
            ∙ placing.picks;
        drops = λ keeps.
            ap (dropped left) (second ∙ placed.kept keeps ∙ ap (remove_at name) (part-is fields count))
            ∙ sym (dropped-more name left others placing.distinct)
            ∙ placing.drops keeps;
      },
    )

-- no name is left
pub all-placed : (keeps_order : Bool) (names : List (List ℕ)) (i : ℕ) (all pairs : List (List ℕ × Tree)) (count : ℕ)
    → length names ≤ i → count ≤ length pairs → IsPlacing keeps_order names (drop i names) all (take count pairs) (drop count pairs)
    → (count ≡ length (picked names all)) × (take count pairs ≡ picked names all) × (keeps_order ≡ true → drop count pairs ≡ dropped names all)
all-placed keeps_order names i all pairs count past within placing =
    let none = drop_all i names past in
    let first : take count pairs ≡ picked names all =
    sym (append-nil (take count pairs)) ∙ ap (λ left. take count pairs ++ picked left (drop count pairs)) (sym none) ∙ placing.picks in (
      sym (length-take-le count pairs within) ∙ ap length first,
      first,
      λ keeps. sym (dropped-none (drop count pairs)) ∙ ap (λ left. dropped left (drop count pairs)) (sym none) ∙ placing.drops keeps,
    )
