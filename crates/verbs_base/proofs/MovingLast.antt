-- Fields that are moved to the end by names, one name after another.
use Rattle.std.proofs.Common.{◌≡◌, ℕ, ◌+◌, ◌-◌, ◌<◌, ◌≤◌, Bool, true, false, cond, List, [], ◌∷◌, ◌++◌, length, take, drop, remove, get_or, Some, None, refl, ap, ap₂, sym, ◌∙◌, arith, append_assoc, add-one}
use borrow.Rule.Slice.PartMut.{put_mid}
use Rattle.std.specs.Option.{is_some, option_to_list}
use Rattle.std.proofs.lemmas.List.{append-nil, map-append, take-map, drop-map, drop_more, drop-append-le, take-append-le, take-append-drop, take_rest, drop_all, take_at, drop_at, length-take-le, length-append, length-map}
use Rattle.std.proofs.lemmas.List.Edits.{length-remove}
use Rattle.mlr_spec.specs.Tree.{Tree}
use Rattle.mlr_spec.specs.Pairs.{remove_at, keys_of, are_distinct}
use Rattle.mlr_spec.proofs.Pairs.{are_distinct-remove}
use Rattle.mlr_record.specs.declared.record.Field.{Field}
use Rattle.mlr_record.specs.Fields.{pairs_of, pair_of, IsPlaceOf}
use Rattle.verbs_base.specs.Choosing.{named, picked, dropped}
use Rattle.verbs_base.specs.Placing.{IsPlacedLast}
use Rattle.verbs_base.proofs.Moving.{IsPlacing, one-more, put-end, some-at}
use Rattle.verbs_base.proofs.Picking.{picked-more, dropped-more, dropped-none}
use Rattle.verbs_base.proofs.Places.{named-absent, named-place, remove_at-absent, removed-place}

-- the fields from a place in a first part on, rotated by one
rotated : (first last : List Field) (i : ℕ) (d : Field) → i < length first
    → take i (first ++ last) ++ (drop 1 (drop i (first ++ last)) ++ take 1 (drop i (first ++ last))) ≡ remove first i ++ (last ++ get_or first i d ∷ [])
rotated first last i d below =
    let here = get_or first i d in
    let from : drop i (first ++ last) ≡ here ∷ (drop (i + 1) first ++ last) =
    drop-append-le i first last (omega arith) ∙ ap (λ x. x ++ last) (drop_more first i d below) in
    ap₂ (λ x y. x ++ (drop 1 y ++ take 1 y)) (take-append-le i first last (omega arith)) from
    ∙ ap (λ x. take i first ++ x) (append_assoc (drop (i + 1) first) last (here ∷ []))
    ∙ sym (append_assoc (take i first) (drop (i + 1) first) (last ++ here ∷ []))
    ∙ ap (λ m. (take i first ++ drop m first) ++ (last ++ here ∷ [])) (add-one i)

module _ (name : List ℕ) (fields : List Field) (rest : ℕ) (within : rest ≤ length fields) where
  first-is : take rest (pairs_of fields) ≡ pairs_of (take rest fields)
  first-is = take-map pair_of rest fields

  -- no field of the first part has the name
  pub last-absent : IsPlaceOf name (take rest fields) None → IsPlacedLast rest name (pairs_of fields) false (pairs_of fields)
  last-absent absent =
      let pairs = pairs_of fields in
      let none : named (take rest pairs) name ≡ None = ap (λ x. named x name) first-is ∙ named-absent name (take rest fields) absent in
      let same : remove_at name (take rest pairs) ≡ take rest pairs = ap (remove_at name) first-is ∙ remove_at-absent name (take rest fields) absent ∙ sym first-is in
      let size : length (remove_at name (take rest pairs)) ≡ rest = ap length (same ∙ first-is) ∙ length-map (take rest fields) pair_of ∙ length-take-le rest fields within in
      record {
        found_is = sym (ap is_some none);
        after_is = sym (ap₂ (λ x o. x ++ (drop rest pairs ++ option_to_list o)) same none ∙ ap (λ x. take rest pairs ++ x) (append-nil (drop rest pairs)) ∙ take-append-drop rest pairs);
        others = omega (arith, size);
      }

  -- the fields from the one with the name on were rotated by one
  pub last-rotated : (i : ℕ) (turned : List Field) → IsPlaceOf name (take rest fields) (Some i)
      → turned ≡ drop 1 (take (length fields - i) (drop i fields)) ++ take 1 (take (length fields - i) (drop i fields))
      → IsPlacedLast rest name (pairs_of fields) true (pairs_of (put_mid i (length fields - i) fields turned))
  last-rotated i turned place is =
      let first = take rest fields in
      let last = drop rest fields in
      let some = some-at first i place.0 in
      let d = some.0 in
      let whole : put_mid i (length fields - i) fields turned ≡ remove first i ++ (last ++ d ∷ []) =
      put-end i fields turned
      ∙ ap (λ x. take i fields ++ x) (is ∙ ap (λ x. drop 1 x ++ take 1 x) (take_rest fields i))
      ∙ ap (λ xs. take i xs ++ (drop 1 (drop i xs) ++ take 1 (drop i xs))) (sym (take-append-drop rest fields))
      ∙ rotated first last i d place.0
      ∙ ap (λ x. remove first i ++ (last ++ x ∷ [])) (sym some.1) in
      let found : Some (pair_of d) ≡ named (take rest (pairs_of fields)) name = named-place name first i d some.1 place ∙ ap (λ x. named x name) (sym first-is) in
      let others : pairs_of (remove first i) ≡ remove_at name (take rest (pairs_of fields)) = removed-place name first i d some.1 place ∙ ap (remove_at name) (sym first-is) in
      record {
        found_is = ap is_some found;
        after_is =
            ap pairs_of whole
            ∙ map-append pair_of (remove first i) (last ++ d ∷ [])
            ∙ ap₂ (λ x y. x ++ y) others (map-append pair_of last (d ∷ []) ∙ ap₂ (λ x o. x ++ option_to_list o) (sym (drop-map pair_of rest fields)) found);
        others =
            let same = ap length (sym others) ∙ length-map (remove first i) pair_of in
            let one = length-remove first i place.0 in
            let long = length-take-le rest fields within in
            omega (arith, same, one, long);
      }

-- one name more, where the moved fields follow the rest
pub places-last : (names left : List (List ℕ)) (name : List ℕ) (all pairs after : List (List ℕ × Tree)) (rest n : ℕ) (found : Bool)
    → IsPlacing true names (name ∷ left) all (drop rest pairs) (take rest pairs) → IsPlacedLast rest name pairs found after → n ≡ cond found (rest - 1) rest
    → (n ≤ length after) × IsPlacing true names left all (drop n after) (take n after)
places-last names left name all pairs after rest n found placing placed is =
    let others = remove_at name (take rest pairs) in
    let taken = drop rest pairs ++ option_to_list (named (take rest pairs) name) in
    let size : length others ≡ n = sized found placed.others is in
    let first = ap (take n) placed.after_is ∙ take_at others taken n size in
    let second = ap (drop n) placed.after_is ∙ drop_at others taken n size in (
      let e = ap length placed.after_is in let l = length-append others taken in omega (arith, e, l, size),
      record {
        distinct = ap (λ x. are_distinct (keys_of x)) first ∙ are_distinct-remove name (take rest pairs) placing.distinct;
        picks =
            ap₂ (λ x y. x ++ picked left y) second first
            ∙ one-more (named (take rest pairs) name) (drop rest pairs) (picked left others)
            ∙ ap (λ x. drop rest pairs ++ x) (sym (picked-more name (take rest pairs) placing.distinct left))
            ∙ placing.picks;
        drops = λ keeps. ap (dropped left) first ∙ sym (dropped-more name left (take rest pairs) placing.distinct) ∙ placing.drops keeps;
      },
    )
  where
    sized : {m : ℕ} (found : Bool) → m + cond found 1 0 ≡ rest → n ≡ cond found (rest - 1) rest → m ≡ n
    sized true one is = omega (arith, one, is)
    sized false none is = omega (arith, none, is)

-- no name is left
pub all-last : (names : List (List ℕ)) (i : ℕ) (all pairs : List (List ℕ × Tree)) (rest : ℕ)
    → length names ≤ i → IsPlacing true names (drop i names) all (drop rest pairs) (take rest pairs) → pairs ≡ dropped names all ++ picked names all
all-last names i all pairs rest past placing =
    let none = drop_all i names past in
    sym (take-append-drop rest pairs)
    ∙ ap₂ (λ x y. x ++ y)
    (sym (dropped-none (take rest pairs)) ∙ ap (λ left. dropped left (take rest pairs)) (sym none) ∙ placing.drops refl)
    (sym (append-nil (drop rest pairs)) ∙ ap (λ left. drop rest pairs ++ picked left (take rest pairs)) (sym none) ∙ placing.picks)
