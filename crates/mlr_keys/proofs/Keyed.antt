-- The keys of the items of a list, and the first of them that passes a test.
use Rattle.std.proofs.Common.{◌≡◌, ℕ, zero, suc, ◌<◌, ◌+◌, Bool, true, false, not, List, [], ◌∷◌, ◌++◌, length, map, take, get_or, Some, None, slice_get, refl, ap, sym, ◌∙◌, arith, add-one}
use Rattle.std.specs.List.{list_any}
use Rattle.std.specs.Str.{bytes_eq}
use Rattle.std.specs.Cmp.Lexicographic.{nat_list_eq_equiv}
use Rattle.std.proofs.lemmas.Bool.{or_parts, or_from, and_parts, not-true}
use Rattle.mlr_spec.specs.Pairs.{are_distinct}
pub use Rattle.indexmap.proofs.SetLemmas.{map-remove}
use Rattle.mlr_keys.specs.Keys.{IsFirst}

module _ {A : Type 0} where
  take-next : (xs : List A) (i : ℕ) (x : A) → slice_get xs i ≡ Some x → take (suc i) xs ≡ take i xs ++ x ∷ []
  take-next [] i x at = absurd (let e : None ≡ Some x = at in cc)
  take-next (y ∷ xs) zero x at =
      let same : y ≡ x = cc in
      ap (λ z. z ∷ []) same
  take-next (y ∷ xs) (suc i) x at = ap (λ ys. y ∷ ys) (take-next xs i x at)

  -- a prefix with the next element
  pub take-more : (xs : List A) (i : ℕ) (x : A) → slice_get xs i ≡ Some x → take (i + 1) xs ≡ take i xs ++ x ∷ []
  take-more xs i x at = rw add-one (take-next xs i x at)

  -- the element at a place passes, and none before it does
  pub first-here : (test : A → Bool) (xs : List A) (i : ℕ) (d : A) → i < length xs → list_any test (take i xs) ≡ false → test (get_or xs i d) ≡ true → IsFirst test xs i
  first-here test [] i d below absent here = absurd (omega arith)
  first-here test (x ∷ xs) zero d below absent here = here
  first-here test (x ∷ xs) (suc i) d below absent here =
      let parts = or_parts (test x) (list_any test (take i xs)) absent in
      (parts.0, first-here test xs i d (omega arith) parts.1 here)

module _ {A : Type 0} (key_of : A → List ℕ) (key : List ℕ) where
  pub first-mapped : (xs : List A) (i : ℕ) → IsFirst (λ x. bytes_eq (key_of x) key) xs i → IsFirst (λ text. bytes_eq text key) (map key_of xs) i
  first-mapped [] i h = h
  first-mapped (x ∷ xs) zero h = h
  first-mapped (x ∷ xs) (suc i) h = (h.0, first-mapped xs i h.1)

  pub none-mapped : (xs : List A) → list_any (λ x. bytes_eq (key_of x) key) xs ≡ false → list_any (bytes_eq key) (map key_of xs) ≡ false
  none-mapped [] h = refl
  none-mapped (x ∷ xs) h =
      let parts = or_parts (bytes_eq (key_of x) key) (list_any (λ x. bytes_eq (key_of x) key) xs) h in
      or_from _ _ (nat_list_eq_equiv.symm key (key_of x) ∙ parts.0) (none-mapped xs parts.1)

-- a text passes no test that none of the texts passes
no-text-at : (test : List ℕ → Bool) (texts : List (List ℕ)) (i : ℕ) (text : List ℕ) → slice_get texts i ≡ Some text → list_any test texts ≡ false → test text ≡ false
no-text-at test [] i text at none = absurd (let e : None ≡ Some text = at in cc)
no-text-at test (t ∷ texts) zero text at none =
    let same : t ≡ text = cc in
    ap test (sym same) ∙ (or_parts (test t) (list_any test texts) none).0
no-text-at test (t ∷ texts) (suc i) text at none = no-text-at test texts i text at (or_parts (test t) (list_any test texts) none).1

-- none of the texts before one of distinct texts is the same
pub none-before : (texts : List (List ℕ)) (i : ℕ) (text : List ℕ) → slice_get texts i ≡ Some text → are_distinct texts ≡ true → list_any (bytes_eq text) (take i texts) ≡ false
none-before [] i text at distinct = absurd (let e : None ≡ Some text = at in cc)
none-before (t ∷ texts) zero text at distinct = refl
none-before (t ∷ texts) (suc i) text at distinct =
    let parts = and_parts (not (list_any (bytes_eq t) texts)) (are_distinct texts) distinct in
    or_from _ _ (nat_list_eq_equiv.symm text t ∙ no-text-at (bytes_eq t) texts i text at (not-true _ parts.0)) (none-before texts i text at parts.1)

pub mapped-at : {A B : Type 0} (f : A → B) (xs : List A) (i : ℕ) (x : A) → i < length xs → x ≡ get_or xs i x → slice_get (map f xs) i ≡ Some (f x)
mapped-at f [] i x below is = absurd (omega arith)
mapped-at f (y ∷ xs) zero x below is = ap (λ z. Some (f z)) (sym is)
mapped-at f (y ∷ xs) (suc i) x below is = mapped-at f xs i x (omega arith) is
