-- One field after another is changed, if it is taken.
use Rattle.std.proofs.Common.{◌≡◌, ℕ, zero, suc, ◌+◌, ◌<◌, Bool, true, false, cond, List, [], ◌∷◌, ◌++◌, map, length, take, drop, set, get_or, Some, None, slice_get, refl, ap, sym, ◌∙◌, arith, add-one}
use Rattle.std.proofs.lemmas.List.{set-get_or, get_or-set_same}
use Rattle.mlr_spec.specs.Tree.{Tree}
use Rattle.verbs_base.specs.Changing.{changed_field, changed, with_image}

module _ {V : Type 0} where
  pub get_or-at : (xs : List V) (i : ℕ) (x d : V) → slice_get xs i ≡ Some x → get_or xs i d ≡ x
  get_or-at [] i x d at = absurd (let e : None ≡ Some x = at in cc)
  get_or-at (y ∷ xs) zero x d at = let same : y ≡ x = cc in same
  get_or-at (y ∷ xs) (suc i) x d at = get_or-at xs i x d at

  pub set-twice : (xs : List V) (i : ℕ) (x y : V) → set (set xs i x) i y ≡ set xs i y
  set-twice [] i x y = refl
  set-twice (z ∷ xs) zero x y = refl
  set-twice (z ∷ xs) (suc i) x y = ap (λ more. z ∷ more) (set-twice xs i x y)

  -- an element changed in its place is one more that is done
  done-more : (f : V → V) (xs : List V) (i : ℕ) (d : V) → i < length xs
      → take (suc i) (set xs i (f (get_or xs i d))) ++ map f (drop (suc i) (set xs i (f (get_or xs i d)))) ≡ take i xs ++ map f (drop i xs)
  done-more f [] i d below = absurd (omega arith)
  done-more f (x ∷ xs) zero d below = refl
  done-more f (x ∷ xs) (suc i) d below = ap (λ more. x ∷ more) (done-more f xs i d (omega arith))

module _ (takes : List ℕ → Bool) (change : Tree → Tree) (pairs : List (List ℕ × Tree)) (i : ℕ) (name : List ℕ) (value : Tree) (at : slice_get pairs i ≡ Some (name, value)) where
  -- a field that isn't taken stays
  pub field-stays : takes name ≡ false → (d : List ℕ × Tree) → pairs ≡ set pairs i (changed_field takes change (get_or pairs i d))
  field-stays not_taken d =
      sym (ap (λ p. set pairs i (changed_field takes change p)) (get_or-at pairs i (name, value) d at)
      ∙ ap (λ t. set pairs i (name, cond t (change value) value)) not_taken
      ∙ ap (set pairs i) (sym (get_or-at pairs i (name, value) d at)) ∙ set-get_or pairs i d)

  -- a field that is taken has its value changed
  pub field-taken : takes name ≡ true → (d : List ℕ × Tree)
      → set pairs i (with_image change (get_or pairs i d)) ≡ set pairs i (changed_field takes change (get_or pairs i d))
  field-taken taken d =
      let here = get_or-at pairs i (name, value) d at in
      ap (λ p. set pairs i (with_image change p)) here
      ∙ ap (λ t. set pairs i (name, cond t (change value) value)) (sym taken)
      ∙ ap (λ p. set pairs i (changed_field takes change p)) (sym here)

-- a value is taken out, and its image is put in its place
pub value-changed : (change : Tree → Tree) (pairs mid after : List (List ℕ × Tree)) (i : ℕ) (d : List ℕ × Tree) (gone had made : Tree) → i < length pairs
    → mid ≡ set pairs i ((get_or pairs i d).0, gone) → had ≡ (get_or pairs i d).1 → made ≡ change had → after ≡ set mid i ((get_or mid i d).0, made)
    → after ≡ set pairs i (with_image change (get_or pairs i d))
value-changed change pairs mid after i d gone had made below emptied is_had is_made put =
    let name = (get_or pairs i d).0 in
    let named : (get_or mid i d).0 ≡ name = ap (λ xs. (get_or xs i d).0) emptied ∙ ap (λ p. p.0) (get_or-set_same pairs i (name, gone) d below) in
    put ∙ ap (λ n. set mid i (n, made)) named ∙ ap (λ v. set mid i (name, v)) (is_made ∙ ap change is_had)
    ∙ ap (λ xs. set xs i (name, change (get_or pairs i d).1)) emptied ∙ set-twice pairs i (name, gone) (name, change (get_or pairs i d).1)

-- one more field, changed, before the remaining ones
pub changed-more : (takes : List ℕ → Bool) (change : Tree → Tree) (before after : List (List ℕ × Tree)) (i : ℕ) (d : List ℕ × Tree) → i < length before
    → after ≡ set before i (changed_field takes change (get_or before i d))
    → take (i + 1) after ++ changed takes change (drop (i + 1) after) ≡ take i before ++ changed takes change (drop i before)
changed-more takes change before after i d below put =
    ap (λ xs. take (i + 1) xs ++ changed takes change (drop (i + 1) xs)) put
    ∙ ap (λ n. take n (set before i (changed_field takes change (get_or before i d))) ++ changed takes change (drop n (set before i (changed_field takes change (get_or before i d))))) (add-one i)
    ∙ done-more (changed_field takes change) before i d below
