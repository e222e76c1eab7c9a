-- The elements of lists that are filtered and mapped.
use Rattle.std.proofs.Common.{◌≡◌, ◌⊎◌, ℕ, zero, suc, ◌<◌, Bool, true, false, cond, List, [], ◌∷◌, map, length, get_or, refl, ap, sym, subst, ◌∙◌, arith, inl, inr}
use Rattle.std.specs.List.{Contains, filter, list_any}
use Rattle.std.proofs.lemmas.Bool.{cases_Bool, or_right}

abbrev pub In : {A : Type 0} → A → List A → Type 0
In x [] = ⊥
In x (y ∷ ys) = (x ≡ y) ⊎ In x ys

pub in-contains : {A : Type 0} (xs : List A) (x : A) → In x xs → Contains xs x
in-contains [] x h = absurd h
in-contains (y ∷ ys) x h = elim h [
  | inl same ↦ (0, omega arith, sym same)
  | inr later ↦ let at = in-contains ys x later in (suc at.0, omega (arith, at.1), at.2)
]

at-in : {A : Type 0} (xs : List A) (x : A) (k : ℕ) → k < length xs → get_or xs k x ≡ x → In x xs
at-in [] x k below is = absurd (omega arith)
at-in (y ∷ ys) x zero below is = inl (sym is)
at-in (y ∷ ys) x (suc k) below is = inr (at-in ys x k (omega arith) is)

pub contains-in : {A : Type 0} (xs : List A) (x : A) → Contains xs x → In x xs
contains-in xs x at = at-in xs x at.0 at.1 at.2

pub in-map : {A B : Type 0} (f : A → B) (xs : List A) (x : A) → In x xs → In (f x) (map f xs)
in-map f [] x h = absurd h
in-map f (y ∷ ys) x h = elim h [ inl same ↦ inl (ap f same) | inr later ↦ inr (in-map f ys x later) ]

pub map-in : {A B : Type 0} (f : A → B) (xs : List A) (y : B) → In y (map f xs) → (x : A) × In x xs × (y ≡ f x)
map-in f [] y h = absurd h
map-in f (x ∷ xs) y h = elim h [
  | inl same ↦ (x, inl refl, same)
  | inr later ↦ let at = map-in f xs y later in (at.0, inr at.1, at.2)
]

module _ {A : Type 0} (test : A → Bool) where
  pub in-filter : (xs : List A) (x : A) → In x xs → test x ≡ true → In x (filter test xs)
  in-filter [] x h passes = absurd h
  in-filter (y ∷ ys) x h passes = elim h [
    | inl same ↦
        let own : test y ≡ true = ap test (sym same) ∙ passes in
        subst (In x) (sym (ap (λ t. cond t (y ∷ filter test ys) (filter test ys)) own)) (inl same)
    | inr later ↦ kept (test y) (in-filter ys x later passes)
  ]
    where
      kept : (t : Bool) → In x (filter test ys) → In x (cond t (y ∷ filter test ys) (filter test ys))
      kept true there = inr there
      kept false there = there

  pub filter-in : (xs : List A) (x : A) → In x (filter test xs) → In x xs × (test x ≡ true)
  filter-in [] x h = absurd h
  filter-in (y ∷ ys) x h = of (test y) refl (λ there. filter-in ys x there) h
    where
      of : (t : Bool) → test y ≡ t → (In x (filter test ys) → In x ys × (test x ≡ true)) → In x (cond t (y ∷ filter test ys) (filter test ys)) → In x (y ∷ ys) × (test x ≡ true)
      of true is rest there = elim there [ inl same ↦ (inl same, ap test same ∙ is) | inr more ↦ let at = rest more in (inr at.0, at.1) ]
      of false is rest there = let at = rest there in (inr at.0, at.1)

  pub any-in : (xs : List A) (x : A) → In x xs → test x ≡ true → list_any test xs ≡ true
  any-in [] x h passes = absurd h
  any-in (y ∷ ys) x h passes = elim h [
    | inl same ↦ let own : test y ≡ true = ap test (sym same) ∙ passes in rw own refl
    | inr later ↦ or_right (test y) (list_any test ys) (any-in ys x later passes)
  ]

  -- no element passes
  pub none-in : (xs : List A) → ((x : A) → In x xs → test x ≡ true → ⊥) → list_any test xs ≡ false
  none-in [] none = refl
  none-in (y ∷ ys) none =
      elim (cases_Bool (test y)) as (λ _. list_any test (y ∷ ys) ≡ false) [
        | inl passes ↦ absurd (none y (inl refl) passes)
        | inr fails ↦ rw fails (none-in ys (λ x there. none x (inr there)))
      ]
