-- Each element once, at its first place: how one more element at the end changes the list.
use Rattle.std.proofs.Common.{◌≡◌, ℕ, zero, suc, Bool, true, false, not, cond, ◌||◌, List, [], ◌∷◌, ◌++◌, map, set, Some, None, slice_get, refl, ap, ap₂, sym, ◌∙◌, inl, inr}
use Rattle.std.specs.Bool.{Decides}
use Rattle.std.specs.List.{list_any, filter}
use Rattle.std.proofs.lemmas.Bool.{cases_Bool, true≢false, or_parts, or_from, or_right}
use Rattle.std.proofs.lemmas.Bool.Decides.{same_from_decides}
use Rattle.std.proofs.lemmas.List.{append-nil}
use Rattle.std.proofs.lemmas.List.Elements.{filter-append}
use Rattle.mlr_groups.specs.Grouping.{each_once}

module _ {A : Type 0} (eq : A → A → Bool) (decides : (x y : A) → Decides (eq x y) (x ≡ y)) where
  pub eq-swap : (x y : A) → eq x y ≡ eq y x
  eq-swap x y =
      let other = decides y x in
      same_from_decides (eq x y) (eq y x) (decides x y) (λ same. sym (other.0 same), λ same. other.1 (sym same))

  -- removing the elements equal to `y` doesn't remove those that differ from `y`
  any-left : (x y : A) (xs : List A) → eq y x ≡ false → list_any (eq x) (filter (λ z. not (eq y z)) xs) ≡ list_any (eq x) xs
  any-left x y [] apart = refl
  any-left x y (z ∷ xs) apart =
      elim (cases_Bool (eq y z)) as (λ _. list_any (eq x) (filter (λ z. not (eq y z)) (z ∷ xs)) ≡ list_any (eq x) (z ∷ xs)) [
        | inl same ↦
            let other : eq x z ≡ false = ap (eq x) (sym ((decides y z).0 same)) ∙ eq-swap x y ∙ apart in
            rw same (any-left x y xs apart ∙ sym (ap (λ t. t || list_any (eq x) xs) other))
        | inr differs ↦ rw differs (ap (λ t. eq x z || t) (any-left x y xs apart))
      ]

  -- each element once: the list has the same elements
  pub any-once : (x : A) (xs : List A) → list_any (eq x) (each_once eq xs) ≡ list_any (eq x) xs
  any-once x [] = refl
  any-once x (y ∷ xs) =
      elim (cases_Bool (eq y x)) as (λ _. list_any (eq x) (each_once eq (y ∷ xs)) ≡ list_any (eq x) (y ∷ xs)) [
        | inl same ↦ let here = eq-swap x y ∙ same in rw here refl
        | inr apart ↦ ap (λ t. eq x y || t) (any-left x y (each_once eq xs) apart ∙ any-once x xs)
      ]

  -- what one more element adds
  abbrev pub added : A → List A → List A
  added x xs = cond (list_any (eq x) (each_once eq xs)) [] (x ∷ [])

  added-left : (x y : A) (xs : List A) → filter (λ z. not (eq y z)) (added x xs) ≡ added x (y ∷ xs)
  added-left x y xs =
      elim (cases_Bool (eq y x)) as (λ _. filter (λ z. not (eq y z)) (added x xs) ≡ added x (y ∷ xs)) [
        | inl same ↦
            let here = eq-swap x y ∙ same in
            rw here (gone (list_any (eq x) (each_once eq xs)) same)
        | inr apart ↦
            let there = eq-swap x y ∙ apart in
            kept (list_any (eq x) (each_once eq xs)) apart
            ∙ ap (λ t. cond t [] (x ∷ [])) (sym (any-left x y (each_once eq xs) apart))
            ∙ ap (λ t. cond (t || list_any (eq x) (filter (λ z. not (eq y z)) (each_once eq xs))) [] (x ∷ [])) (sym there)
      ]
    where
      gone : (b : Bool) → eq y x ≡ true → filter (λ z. not (eq y z)) (cond b [] (x ∷ [])) ≡ []
      gone true same = refl
      gone false same = rw same refl

      kept : (b : Bool) → eq y x ≡ false → filter (λ z. not (eq y z)) (cond b [] (x ∷ [])) ≡ cond b [] (x ∷ [])
      kept true apart = refl
      kept false apart = rw apart refl

  pub each_once-last : (xs : List A) (x : A) → each_once eq (xs ++ x ∷ []) ≡ each_once eq xs ++ added x xs
  each_once-last [] x = refl
  each_once-last (y ∷ xs) x =
      ap (λ once. y ∷ filter (λ z. not (eq y z)) once) (each_once-last xs x)
      ∙ ap (λ left. y ∷ left) (filter-append (λ z. not (eq y z)) (each_once eq xs) (added x xs))
      ∙ ap (λ more. y ∷ filter (λ z. not (eq y z)) (each_once eq xs) ++ more) (added-left x y xs)

  -- An element that is there changes nothing.
  pub each_once-known : (xs : List A) (x : A) → list_any (eq x) (each_once eq xs) ≡ true → each_once eq (xs ++ x ∷ []) ≡ each_once eq xs
  each_once-known xs x known =
      each_once-last xs x ∙ ap (λ t. each_once eq xs ++ cond t [] (x ∷ [])) known ∙ append-nil (each_once eq xs)

  -- A new element is added at the end.
  pub each_once-new : (xs : List A) (x : A) → list_any (eq x) (each_once eq xs) ≡ false → each_once eq (xs ++ x ∷ []) ≡ each_once eq xs ++ x ∷ []
  each_once-new xs x new = each_once-last xs x ∙ ap (λ t. each_once eq xs ++ cond t [] (x ∷ [])) new

  -- no two elements are equal
  abbrev pub AreApart : List A → Type 0
  AreApart [] = Unit {0}
  AreApart (x ∷ xs) = (list_any (eq x) xs ≡ false) × AreApart xs

  any-filter : (x : A) (test : A → Bool) (xs : List A) → list_any (eq x) xs ≡ false → list_any (eq x) (filter test xs) ≡ false
  any-filter x test [] none = refl
  any-filter x test (y ∷ xs) none =
      let parts = or_parts (eq x y) (list_any (eq x) xs) none in
      elim (cases_Bool (test y)) as (λ _. list_any (eq x) (filter test (y ∷ xs)) ≡ false) [
        | inl passes ↦ rw passes (or_from _ _ parts.0 (any-filter x test xs parts.1))
        | inr fails ↦ rw fails (any-filter x test xs parts.1)
      ]

  apart-filter : (test : A → Bool) (xs : List A) → AreApart xs → AreApart (filter test xs)
  apart-filter test [] apart = apart
  apart-filter test (x ∷ xs) apart =
      elim (cases_Bool (test x)) as (λ _. AreApart (filter test (x ∷ xs))) [
        | inl passes ↦ rw passes (any-filter x test xs apart.0, apart-filter test xs apart.1)
        | inr fails ↦ rw fails (apart-filter test xs apart.1)
      ]

  any-without : (x : A) (xs : List A) → list_any (eq x) (filter (λ z. not (eq x z)) xs) ≡ false
  any-without x [] = refl
  any-without x (y ∷ xs) =
      elim (cases_Bool (eq x y)) as (λ _. list_any (eq x) (filter (λ z. not (eq x z)) (y ∷ xs)) ≡ false) [
        | inl same ↦ rw same (any-without x xs)
        | inr apart ↦ rw apart (or_from _ _ apart (any-without x xs))
      ]

  -- Each element once: no two of them are equal.
  pub each_once-apart : (xs : List A) → AreApart (each_once eq xs)
  each_once-apart [] = tt
  each_once-apart (x ∷ xs) = (any-without x (each_once eq xs), apart-filter (λ z. not (eq x z)) (each_once eq xs) (each_once-apart xs))

  -- the element at a place is in the list
  pub any-at : (xs : List A) (p : ℕ) (x : A) → slice_get xs p ≡ Some x → list_any (eq x) xs ≡ true
  any-at [] p x at = absurd (let e : None ≡ Some x = at in cc)
  any-at (y ∷ xs) zero x at = let e : y ≡ x = cc in let here : eq x y ≡ true = (decides x y).1 (sym e) in rw here refl
  any-at (y ∷ xs) (suc p) x at = or_right (eq x y) (list_any (eq x) xs) (any-at xs p x at)

  pub map-same : {B : Type 0} (f g : A → B) (x : A) (xs : List A) → list_any (eq x) xs ≡ false → ((y : A) → eq x y ≡ false → g y ≡ f y) → map g xs ≡ map f xs
  map-same f g x [] none same = refl
  map-same f g x (y ∷ xs) none same =
      let parts = or_parts (eq x y) (list_any (eq x) xs) none in
      ap₂ (λ z zs. z ∷ zs) (same y parts.0) (map-same f g x xs parts.1 same)

  -- mapping two functions that differ at one element only
  pub map-one : {B : Type 0} (f g : A → B) (xs : List A) (p : ℕ) (x : A) → AreApart xs → slice_get xs p ≡ Some x → ((y : A) → eq x y ≡ false → g y ≡ f y) → map g xs ≡ set (map f xs) p (g x)
  map-one f g [] p x apart at same = absurd (let e : None ≡ Some x = at in cc)
  map-one f g (y ∷ xs) zero x apart at same =
      let e : y ≡ x = cc in
      ap₂ (λ z zs. z ∷ zs) (ap g e) (map-same f g x xs (ap (λ z. list_any (eq z) xs) (sym e) ∙ apart.0) same)
  map-one f g (y ∷ xs) (suc p) x apart at same =
      let there : list_any (eq x) xs ≡ true = any-at xs p x at in
      let differs : eq x y ≡ false = other x y xs there apart.0 in
      ap₂ (λ z zs. z ∷ zs) (same y differs) (map-one f g xs p x apart.1 at same)
    where
      other : (x y : A) (xs : List A) → list_any (eq x) xs ≡ true → list_any (eq y) xs ≡ false → eq x y ≡ false
      other x y xs there none =
          elim (cases_Bool (eq x y)) as (λ _. eq x y ≡ false) [
            | inl is ↦ absurd (true≢false (sym there ∙ ap (λ z. list_any (eq z) xs) ((decides x y).0 is) ∙ none))
            | inr isnt ↦ isnt
          ]
