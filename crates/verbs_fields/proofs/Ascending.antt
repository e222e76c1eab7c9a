-- Pairs sorted by their names: distinct names have one such order, which a sort gives, and also the insertion
-- of one pair after another.
use Rattle.std.proofs.Common.{◌≡◌, ◌⊎◌, ℕ, zero, suc, ◌<◌, ◌≤◌, Bool, true, false, not, cond, List, [], ◌∷◌, map, length, get_or, refl, ap, ap₂, sym, subst, ◌∙◌, arith, inl, inr}
use Rattle.std.specs.List.{list_any, Contains, IsDistinct, AllByRecursion}
use Rattle.std.specs.List.Sorted.{IsPermutation, IsSortedBy}
use Rattle.std.specs.Cmp.{IsStrictWeakOrder}
use Rattle.std.specs.Cmp.Lexicographic.{slice_cmp, nat_list_eq_equiv}
use Rattle.std.specs.Ordering.{is_lt, is_eq, nat_cmp, ordering_reverse}
use Rattle.std.specs.declared.cmp.Ordering.{Ordering}
use Rattle.std.specs.declared.cmp.Ordering.TheVariants.{Less, Equal, Greater}
use Rattle.std.specs.Str.{bytes_eq}
use Rattle.std.proofs.lemmas.Bool.{cases_Bool, and_parts, and_from, or_parts, or_from, not-true, not_from_false, cond_both, true≢false}
use Rattle.std.proofs.lemmas.Cmp.{nat_list_cmp_total}
use Rattle.std.proofs.lemmas.List.Sorted.{ranks_by, sorted_far, Contains-permutation, IsPermutation-map, IsPermutation-sym}
use Rattle.std.proofs.lemmas.Map.Keys.{IsDistinct-IsPermutation, IsDistinct-head, IsDistinct-tail, IsDistinct-cons, IsDistinct-from_apart}
use Rattle.std.proofs.lemmas.Map.Text.{is_eq-slice_cmp}
use Rattle.mlr_spec.specs.Tree.{Tree}
use Rattle.mlr_spec.specs.Pairs.{keys_of, are_distinct}
use Rattle.verbs_fields.specs.Sorting.{is_before, insert_by_name, by_name}

abbrev Pair : Type 0
Pair = List ℕ × Tree

order : IsStrictWeakOrder is_before
order = ranks_by nat_list_cmp_total (λ text. text)

before-itself : (text : List ℕ) → is_before text text ≡ true → ⊥
before-itself text h = true≢false (sym h ∙ order.one_way text text h)

before-both : (a b : List ℕ) → is_before a b ≡ true → is_before b a ≡ true → ⊥
before-both a b h g = true≢false (sym g ∙ order.one_way a b h)

before-chain : (a b c : List ℕ) → is_before a b ≡ true → is_before b c ≡ true → is_before a c ≡ true
before-chain a b c h g =
    elim (cases_Bool (is_before a c)) as (λ _. is_before a c ≡ true) [
      | inl is ↦ is
      | inr isnt ↦ absurd (true≢false (sym h ∙ order.chain a c b isnt (order.one_way b c g)))
    ]

-- of two names that differ, one precedes the other
decided : (o : Ordering) → is_lt (ordering_reverse o) ≡ false → is_eq o ≡ false → is_lt o ≡ true
decided Less not_after apart = refl
decided Equal not_after apart = absurd (true≢false apart)
decided Greater not_after apart = absurd (true≢false not_after)

before-apart : (a b : List ℕ) → bytes_eq a b ≡ false → is_before b a ≡ false → is_before a b ≡ true
before-apart a b apart following =
    decided (slice_cmp nat_cmp a b) (ap is_lt (sym (nat_list_cmp_total.antisymm b a)) ∙ following) (is_eq-slice_cmp a b ∙ apart)

-- the elements of a list
abbrev In : {A : Type 0} → A → List A → Type 0
In x [] = ⊥
In x (y ∷ ys) = (x ≡ y) ⊎ In x ys

in-contains : {A : Type 0} (xs : List A) (x : A) → In x xs → Contains xs x
in-contains [] x h = absurd h
in-contains (y ∷ ys) x h = elim h [
  | inl same ↦ (0, omega arith, sym same)
  | inr later ↦ let at = in-contains ys x later in (suc at.0, omega (arith, at.1), at.2)
]

contains-in : {A : Type 0} (xs : List A) (x : A) (k : ℕ) → k < length xs → get_or xs k x ≡ x → In x xs
contains-in [] x k below is = absurd (omega arith)
contains-in (y ∷ ys) x zero below is = inl (sym is)
contains-in (y ∷ ys) x (suc k) below is = inr (contains-in ys x k (omega arith) is)

in-permutation : {A : Type 0} (xs ys : List A) (x : A) → IsPermutation xs ys → In x xs → In x ys
in-permutation xs ys x moved h = let at = Contains-permutation xs ys x moved (in-contains xs x h) in contains-in ys x at.0 at.1 at.2

in-map : {A B : Type 0} (f : A → B) (xs : List A) (y : B) → In y (map f xs) → (x : A) × In x xs × (y ≡ f x)
in-map f [] y h = absurd h
in-map f (x ∷ xs) y h = elim h [
  | inl same ↦ (x, inl refl, same)
  | inr later ↦ let at = in-map f xs y later in (at.0, inr at.1, at.2)
]

-- each name precedes those after it
abbrev pub Ascends : List Pair → Type 0
Ascends [] = Unit {0}
Ascends (x ∷ xs) = ((y : Pair) → In y xs → is_before x.0 y.0 ≡ true) × Ascends xs

-- two such lists of the same pairs are equal
same-ascending : (xs ys : List Pair) → Ascends xs → Ascends ys → ((z : Pair) → In z xs → In z ys) → ((z : Pair) → In z ys → In z xs) → xs ≡ ys
same-ascending [] [] up up_2 forth back = refl
same-ascending [] (y ∷ ys) up up_2 forth back = absurd (back y (inl refl))
same-ascending (x ∷ xs) [] up up_2 forth back = absurd (forth x (inl refl))
same-ascending (x ∷ xs) (y ∷ ys) up up_2 forth back =
    ap₂ (λ z zs. z ∷ zs) first (same-ascending xs ys up.1 up_2.1 forth_rest back_rest)
  where
    first : x ≡ y
    first = elim (forth x (inl refl)) [
      | inl same ↦ same
      | inr x_later ↦ elim (back y (inl refl)) [
        | inl same ↦ sym same
        | inr y_later ↦ absurd (before-both y.0 x.0 (up_2.0 x x_later) (up.0 y y_later))
      ]
    ]

    forth_rest : (z : Pair) → In z xs → In z ys
    forth_rest z h = elim (forth z (inr h)) [
      | inl same ↦ absurd (before-itself x.0 (subst (λ w. is_before x.0 w.0 ≡ true) (same ∙ sym first) (up.0 z h)))
      | inr later ↦ later
    ]

    back_rest : (z : Pair) → In z ys → In z xs
    back_rest z h = elim (back z (inr h)) [
      | inl same ↦ absurd (before-itself y.0 (subst (λ w. is_before y.0 w.0 ≡ true) (same ∙ first) (up_2.0 z h)))
      | inr later ↦ later
    ]

-- the elements of a list after a pair was inserted
inserted-parts : (p q : Pair) (pairs : List Pair) (z : Pair) → (In z (insert_by_name p pairs) → (z ≡ p) ⊎ In z pairs) → (t : Bool) → In z (cond t (q ∷ insert_by_name p pairs) (p ∷ q ∷ pairs)) → (z ≡ p) ⊎ In z (q ∷ pairs)
inserted-parts p q pairs z rest true h = elim h [
  | inl same ↦ inr (inl same)
  | inr later ↦ elim (rest later) [ inl same ↦ inl same | inr there ↦ inr (inr there) ]
]
inserted-parts p q pairs z rest false h = h

in-inserted : (p : Pair) (pairs : List Pair) (z : Pair) → In z (insert_by_name p pairs) → (z ≡ p) ⊎ In z pairs
in-inserted p [] z h = h
in-inserted p (q ∷ pairs) z h = inserted-parts p q pairs z (in-inserted p pairs z) (is_before q.0 p.0) h

parts-inserted : (p q : Pair) (pairs : List Pair) (z : Pair) → ((z ≡ p) ⊎ In z pairs → In z (insert_by_name p pairs)) → (t : Bool) → (z ≡ p) ⊎ In z (q ∷ pairs) → In z (cond t (q ∷ insert_by_name p pairs) (p ∷ q ∷ pairs))
parts-inserted p q pairs z rest true h = elim h [
  | inl same ↦ inr (rest (inl same))
  | inr there ↦ elim there [ inl same ↦ inl same | inr later ↦ inr (rest (inr later)) ]
]
parts-inserted p q pairs z rest false h = h

inserted-in : (p : Pair) (pairs : List Pair) (z : Pair) → (z ≡ p) ⊎ In z pairs → In z (insert_by_name p pairs)
inserted-in p [] z h = h
inserted-in p (q ∷ pairs) z h = parts-inserted p q pairs z (inserted-in p pairs z) (is_before q.0 p.0) h

in-by_name : (pairs : List Pair) (z : Pair) → In z (by_name pairs) → In z pairs
in-by_name [] z h = h
in-by_name (p ∷ pairs) z h = elim (in-inserted p (by_name pairs) z h) [ inl same ↦ inl same | inr there ↦ inr (in-by_name pairs z there) ]

by_name-in : (pairs : List Pair) (z : Pair) → In z pairs → In z (by_name pairs)
by_name-in [] z h = h
by_name-in (p ∷ pairs) z h = inserted-in p (by_name pairs) z (elim h [ inl same ↦ inl same | inr there ↦ inr (by_name-in pairs z there) ])

ascends-following : (p q : Pair) (pairs : List Pair) → Ascends (q ∷ pairs) → Ascends (insert_by_name p pairs) → is_before q.0 p.0 ≡ true → Ascends (q ∷ insert_by_name p pairs)
ascends-following p q pairs up rest is = (
  (λ z h. elim (in-inserted p pairs z h) [
    | inl same ↦ subst (λ w. is_before q.0 w.0 ≡ true) (sym same) is
    | inr there ↦ up.0 z there
  ]),
  rest,
)

ascends-here : (p q : Pair) (pairs : List Pair) → Ascends (q ∷ pairs) → is_before p.0 q.0 ≡ true → Ascends (p ∷ q ∷ pairs)
ascends-here p q pairs up first = (
  (λ z h. elim h [
    | inl same ↦ subst (λ w. is_before p.0 w.0 ≡ true) (sym same) first
    | inr there ↦ before-chain p.0 q.0 z.0 first (up.0 z there)
  ]),
  up,
)

ascends-inserted : (p : Pair) (pairs : List Pair) → Ascends pairs → ((z : Pair) → In z pairs → bytes_eq p.0 z.0 ≡ false) → Ascends (insert_by_name p pairs)
ascends-inserted p [] up apart = ((λ z h. absurd h), tt)
ascends-inserted p (q ∷ pairs) up apart =
    cond_both (is_before q.0 p.0) (q ∷ insert_by_name p pairs) (p ∷ q ∷ pairs) Ascends
    (λ is. ascends-following p q pairs up (ascends-inserted p pairs up.1 (λ z h. apart z (inr h))) is)
    (λ isnt. ascends-here p q pairs up (before-apart p.0 q.0 (apart q (inl refl)) isnt))

-- a name that no pair has differs from the name of each pair in the list
apart-in : (key : List ℕ) (pairs : List Pair) (z : Pair) → list_any (bytes_eq key) (keys_of pairs) ≡ false → In z pairs → bytes_eq key z.0 ≡ false
apart-in key [] z none h = absurd h
apart-in key (p ∷ pairs) z none h =
    let parts = or_parts (bytes_eq key p.0) (list_any (bytes_eq key) (keys_of pairs)) none in
    elim h [ inl same ↦ subst (λ w. bytes_eq key w.0 ≡ false) (sym same) parts.0 | inr there ↦ apart-in key pairs z parts.1 there ]

ascends-by_name : (pairs : List Pair) → are_distinct (keys_of pairs) ≡ true → Ascends (by_name pairs)
ascends-by_name [] distinct = tt
ascends-by_name (p ∷ pairs) distinct =
    let parts = and_parts (not (list_any (bytes_eq p.0) (keys_of pairs))) (are_distinct (keys_of pairs)) distinct in
    ascends-inserted p (by_name pairs) (ascends-by_name pairs parts.1) (λ z h. apart-in p.0 pairs z (not-true _ parts.0) (in-by_name pairs z h))

module _ {A : Type 0} (pair_of : A → Pair) where
  abbrev pub precedes : A → A → Bool
  precedes x y = is_before (pair_of x).0 (pair_of y).0

  pub precedes-order : IsStrictWeakOrder precedes
  precedes-order = ranks_by nat_list_cmp_total (λ x. (pair_of x).0)

  ascends-far : (xs : List A) → ((i j : ℕ) (d : A) → i ≤ j → j < length xs → precedes (get_or xs j d) (get_or xs i d) ≡ false) → are_distinct (keys_of (map pair_of xs)) ≡ true → Ascends (map pair_of xs)
  ascends-far [] far distinct = tt
  ascends-far (x ∷ xs) far distinct =
      let keys = keys_of (map pair_of xs) in
      let parts = and_parts (not (list_any (bytes_eq (pair_of x).0) keys)) (are_distinct keys) distinct in (
        (λ z h. (
            let at = in-map pair_of xs z h in
            let place = in-contains xs at.0 at.1 in
            let following : precedes at.0 x ≡ false =
            ap (λ y. precedes y x) (sym place.2) ∙ far 0 (suc place.0) at.0 (omega arith) (omega (arith, place.1)) in
            before-apart (pair_of x).0 z.0 (apart-in (pair_of x).0 (map pair_of xs) z (not-true _ parts.0) h)
            (ap (λ w. is_before w.0 (pair_of x).0) at.2 ∙ following)
            )),
        ascends-far xs (λ i j d order below. far (suc i) (suc j) d (omega arith) (omega arith)) parts.1,
      )

distinct-is : (names : List (List ℕ)) → are_distinct names ≡ true → IsDistinct bytes_eq names
distinct-is [] distinct = IsDistinct-from_apart bytes_eq [] (λ i j d before below. absurd (omega arith))
distinct-is (name ∷ names) distinct =
    let parts = and_parts (not (list_any (bytes_eq name) names)) (are_distinct names) distinct in
    IsDistinct-cons bytes_eq name names (all names (not-true _ parts.0)) (distinct-is names parts.1)
  where
    all : (others : List (List ℕ)) → list_any (bytes_eq name) others ≡ false → AllByRecursion (λ other. bytes_eq name other ≡ false) others
    all [] none = tt
    all (other ∷ others) none =
        let parts = or_parts (bytes_eq name other) (list_any (bytes_eq name) others) none in (parts.0, all others parts.1)

is-distinct : (names : List (List ℕ)) → IsDistinct bytes_eq names → are_distinct names ≡ true
is-distinct [] distinct = refl
is-distinct (name ∷ names) distinct =
    and_from _ _ (not_from_false _ (none names (IsDistinct-head bytes_eq name names distinct))) (is-distinct names (IsDistinct-tail bytes_eq name names distinct))
  where
    none : (others : List (List ℕ)) → AllByRecursion (λ other. bytes_eq name other ≡ false) others → list_any (bytes_eq name) others ≡ false
    none [] all = refl
    none (other ∷ others) all = or_from _ _ all.0 (none others all.1)

pub distinct-permutation : (pairs moved : List Pair) → IsPermutation pairs moved → are_distinct (keys_of pairs) ≡ true → are_distinct (keys_of moved) ≡ true
distinct-permutation pairs moved same distinct =
    is-distinct (keys_of moved) (
    IsDistinct-IsPermutation bytes_eq nat_list_eq_equiv.symm (keys_of pairs) (keys_of moved)
    (IsPermutation-map (λ (pair : Pair). pair.0) pairs moved same) (distinct-is (keys_of pairs) distinct)
    )

module _ {A : Type 0} (pair_of : A → Pair) (xs ys : List A) (moved : IsPermutation xs ys) (distinct : are_distinct (keys_of (map pair_of xs)) ≡ true) where
  pub sorted-distinct : are_distinct (keys_of (map pair_of ys)) ≡ true
  sorted-distinct = distinct-permutation (map pair_of xs) (map pair_of ys) (IsPermutation-map pair_of xs ys moved) distinct

  -- sorting by name gives the same as inserting one pair after another
  pub sorted-by_name : IsSortedBy (precedes pair_of) ys → map pair_of ys ≡ by_name (map pair_of xs)
  sorted-by_name sorted =
      let pairs = map pair_of xs in
      let made = map pair_of ys in
      let same : IsPermutation pairs made = IsPermutation-map pair_of xs ys moved in
      same-ascending made (by_name pairs)
      (ascends-far pair_of ys (sorted_far (precedes pair_of) (precedes-order pair_of) ys sorted) sorted-distinct)
      (ascends-by_name pairs distinct)
      (λ z h. by_name-in pairs z (in-permutation made pairs z (IsPermutation-sym pairs made same) h))
      (λ z h. in-permutation pairs made z same (in-by_name pairs z h))
