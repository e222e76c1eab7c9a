-- A field that is swapped with the first.
use Rattle.std.proofs.Common.{◌≡◌, ℕ, zero, suc, ◌<◌, Bool, true, false, cond, List, [], ◌∷◌, ◌++◌, length, take, drop, set, get_or, Some, refl, ap, sym, ◌∙◌, arith}
use Rattle.std.specs.List.{cons_option, list_any, swap}
use Rattle.std.specs.Str.{bytes_eq}
use Rattle.std.proofs.lemmas.Bool.{and_parts, and_from, or_parts, or_from, not-true, not_from_false, true≢false}
use Rattle.std.proofs.lemmas.List.{map-append, get_or_default, set_split}
use Rattle.std.proofs.lemmas.Slice.Eq.{bytes_eq-Decides}
use Rattle.mlr_spec.specs.Tree.{Tree}
use Rattle.mlr_spec.specs.Pairs.{are_distinct, keys_of, remove_at, value_at}
use Rattle.mlr_spec.proofs.Pairs.{are_distinct-remove}
use Rattle.mlr_record.specs.declared.record.Field.{Field}
use Rattle.mlr_record.specs.Fields.{IsPlaceOf, pair_of, pairs_of}
use Rattle.mlr_event.proofs.Distinct.{bytes_eq-swap}
use Rattle.verbs_base.specs.Placing.{IsPlaced}
use Rattle.verbs_base.proofs.Places.{named-place, removed-place}

any-later : (key : List ℕ) (p : List ℕ × Tree) (before after : List (List ℕ × Tree)) → bytes_eq key p.0 ≡ false → list_any (bytes_eq key) (keys_of (before ++ after)) ≡ false
    → list_any (bytes_eq key) (keys_of (before ++ p ∷ after)) ≡ false
any-later key p [] after apart none = or_from _ _ apart none
any-later key p (b ∷ before) after apart none =
    let parts = or_parts (bytes_eq key b.0) (list_any (bytes_eq key) (keys_of (before ++ after))) none in
    or_from _ _ parts.0 (any-later key p before after apart parts.1)

-- two pairs of two keys
module _ (p b : List ℕ × Tree) (rest : List (List ℕ × Tree)) (distinct : are_distinct (keys_of (p ∷ b ∷ rest)) ≡ true) where
  firsts : (list_any (bytes_eq p.0) (keys_of (b ∷ rest)) ≡ false) × (are_distinct (keys_of (b ∷ rest)) ≡ true)
  firsts = let parts = and_parts _ _ distinct in (not-true _ parts.0, parts.1)

  apart : bytes_eq p.0 b.0 ≡ false
  apart = (or_parts (bytes_eq p.0 b.0) (list_any (bytes_eq p.0) (keys_of rest)) firsts.0).0

  second : list_any (bytes_eq b.0) (keys_of rest) ≡ false
  second = not-true _ (and_parts _ _ firsts.1).0

  without : are_distinct (keys_of (p ∷ rest)) ≡ true
  without = and_from _ _ (not_from_false _ (or_parts (bytes_eq p.0 b.0) (list_any (bytes_eq p.0) (keys_of rest)) firsts.0).1) (and_parts _ _ firsts.1).1

  not-both : (name : List ℕ) → bytes_eq b.0 name ≡ true → bytes_eq p.0 name ≡ true → ⊥
  not-both name one other =
      true≢false (sym ((bytes_eq-Decides p.0 b.0).1 ((bytes_eq-Decides p.0 name).0 other ∙ sym ((bytes_eq-Decides b.0 name).0 one))) ∙ apart)

-- a pair in a later place
later-distinct : (p : List ℕ × Tree) (before after : List (List ℕ × Tree)) → are_distinct (keys_of (p ∷ (before ++ after))) ≡ true → are_distinct (keys_of (before ++ p ∷ after)) ≡ true
later-distinct p [] after distinct = distinct
later-distinct p (b ∷ before) after distinct =
    let rest = before ++ after in
    and_from _ _ (not_from_false _ (any-later b.0 p before after (bytes_eq-swap b.0 p.0 ∙ apart p b rest distinct) (second p b rest distinct)))
    (later-distinct p before after (without p b rest distinct))

exchanged : {X : Type 0} (s t : Bool) (x y rest : X) → (s ≡ true → t ≡ true → ⊥) → cond s x (cond t y rest) ≡ cond t y (cond s x rest)
exchanged true true x y rest never = absurd (never refl refl)
exchanged true false x y rest never = refl
exchanged false true x y rest never = refl
exchanged false false x y rest never = refl

later-values : (p : List ℕ × Tree) (before after : List (List ℕ × Tree)) → are_distinct (keys_of (p ∷ (before ++ after))) ≡ true
    → (name : List ℕ) → value_at name (before ++ p ∷ after) ≡ value_at name (p ∷ (before ++ after))
later-values p [] after distinct name = refl
later-values p (b ∷ before) after distinct name =
    let rest = before ++ after in
    ap (λ v. cond (bytes_eq b.0 name) (Some b.1) v) (later-values p before after (without p b rest distinct) name)
    ∙ exchanged (bytes_eq b.0 name) (bytes_eq p.0 name) (Some b.1) (Some p.1) (value_at name rest) (not-both p b rest distinct name)

-- the field of a name was swapped with the first
pub placed-swapped : (keeps_order : Bool) (key : List ℕ) (fields : List Field) (i : ℕ) → keeps_order ≡ false → are_distinct (keys_of (pairs_of fields)) ≡ true → IsPlaceOf key fields (Some i)
    → IsPlaced keeps_order key (pairs_of fields) (pairs_of (swap fields 0 i))
placed-swapped keeps_order key [] i swaps distinct place = absurd (let below = place.0 in omega arith)
placed-swapped keeps_order key (f ∷ fields) zero swaps distinct place = record {
  others = pairs_of fields;
  after_is = ap (λ found. cons_option found (pairs_of fields)) (named-place key (f ∷ fields) 0 f refl place);
  same = record { distinct = (and_parts _ _ distinct).1; values = λ name. ap (value_at name) (removed-place key (f ∷ fields) 0 f refl place) };
  kept = λ keeps. absurd (true≢false (sym keeps ∙ swaps));
}
placed-swapped keeps_order key (f ∷ fields) (suc i) swaps distinct place =
    let below : i < length fields = let under = place.0 in omega arith in
    let field = get_or fields i f in
    let at : field ≡ get_or fields i field = get_or_default fields i f field below in
    let before = pairs_of (take i fields) in
    let after = pairs_of (drop (suc i) fields) in
    let others_are : pairs_of (set fields i f) ≡ before ++ pair_of f ∷ after = ap pairs_of (set_split fields i f below) ∙ map-append pair_of (take i fields) (f ∷ drop (suc i) fields) in
    let removed_is : pair_of f ∷ (before ++ after) ≡ remove_at key (pairs_of (f ∷ fields)) =
    ap (λ x. pair_of f ∷ x) (sym (map-append pair_of (take i fields) (drop (suc i) fields))) ∙ removed-place key (f ∷ fields) (suc i) field at place in
    let left : are_distinct (keys_of (pair_of f ∷ (before ++ after))) ≡ true = ap (λ x. are_distinct (keys_of x)) removed_is ∙ are_distinct-remove key (pairs_of (f ∷ fields)) distinct in
    record {
      others = pairs_of (set fields i f);
      after_is = ap (λ found. cons_option found (pairs_of (set fields i f))) (named-place key (f ∷ fields) (suc i) field at place);
      same = record {
        distinct = ap (λ x. are_distinct (keys_of x)) others_are ∙ later-distinct (pair_of f) before after left;
        values = λ name. ap (value_at name) others_are ∙ later-values (pair_of f) before after left name ∙ ap (value_at name) removed_is;
      };
      kept = λ keeps. absurd (true≢false (sym keeps ∙ swaps));
    }
