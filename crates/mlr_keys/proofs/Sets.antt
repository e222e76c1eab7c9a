-- Keys of a set, and their places.
use Rattle.std.proofs.Common.{◌≡◌, ℕ, zero, suc, ◌<◌, Bool, true, false, List, [], ◌∷◌, ◌++◌, ◌||◌, length, get_or, Vec, Global, Option, Some, None, is_some, position, refl, ap, sym, ◌∙◌, arith, cond}
use Rattle.std.specs.List.{list_any}
use Rattle.std.specs.Str.{bytes_eq}
use Rattle.std.specs.Cmp.Lexicographic.{nat_list_eq_equiv}
use Rattle.std.proofs.lemmas.List.{map-append}
use Rattle.std.proofs.lemmas.List.Quantifiers.{position-Some}
use Rattle.indexmap.specs.IndexSet.{insert_key}
use Rattle.mlr_keys.specs.Keys.{texts_in, IsFirst, IsPlaceAmong}

abbrev pub Keys : Type 0
Keys = List (Vec ℕ Global)

-- whether a key of the map is this text, as the set asks it
abbrev pub is_text : List ℕ → Vec ℕ Global → Bool
is_text text key = bytes_eq text key.items

-- the key at this place is this text, and none before it is
abbrev pub IsAt : List ℕ → Keys → ℕ → Type 0
IsAt text [] i = ⊥
IsAt text (key ∷ keys) zero = bytes_eq key.items text ≡ true
IsAt text (key ∷ keys) (suc i) = (bytes_eq key.items text ≡ false) × IsAt text keys i

module _ (text : List ℕ) where
  IsAt-first : (keys : Keys) (i : ℕ) → i < length keys → ((d : Vec ℕ Global) → is_text text (get_or keys i d) ≡ true) → ((k : ℕ) (d : Vec ℕ Global) → k < i → is_text text (get_or keys k d) ≡ false)
      → IsAt text keys i
  IsAt-first [] i below here before = absurd (omega arith)
  IsAt-first (key ∷ keys) zero below here before = nat_list_eq_equiv.symm key.items text ∙ here key
  IsAt-first (key ∷ keys) (suc i) below here before =
      (nat_list_eq_equiv.symm key.items text ∙ before 0 key (omega arith), IsAt-first keys i (omega arith) here (λ k d h. before (suc k) d (omega arith)))

  pub IsAt-position : (keys : Keys) (i : ℕ) → Some i ≡ position (is_text text) keys → IsAt text keys i
  IsAt-position [] i h = absurd (let e : Some i ≡ None = h in cc)
  IsAt-position (key ∷ keys) i h =
      let found = λ (d : Vec ℕ Global). position-Some (is_text text) (key ∷ keys) i d (sym h) in
      IsAt-first (key ∷ keys) i (found key).0 (λ d. (found d).1) (λ k d. (found d).2 k)

  pub IsFirst-texts : (keys : Keys) (i : ℕ) → IsAt text keys i → IsFirst (λ t. bytes_eq t text) (texts_in keys) i
  IsFirst-texts [] i h = h
  IsFirst-texts (key ∷ keys) zero h = h
  IsFirst-texts (key ∷ keys) (suc i) h = (h.0, IsFirst-texts keys i h.1)

  pub any-texts : (keys : Keys) → list_any (bytes_eq text) (texts_in keys) ≡ list_any (is_text text) keys
  any-texts [] = refl
  any-texts (key ∷ keys) = ap (λ t. bytes_eq text key.items || t) (any-texts keys)

  pub place-among : (keys : Keys) (place : Option ℕ) → place ≡ position (is_text text) keys → is_some place ≡ list_any (is_text text) keys → IsPlaceAmong text (texts_in keys) place
  place-among keys None is found = any-texts keys ∙ sym found
  place-among keys (Some i) is found = IsFirst-texts keys i (IsAt-position keys i is)

-- a new key is added at the end
pub texts-push : (keys : Keys) (key : Vec ℕ Global) → list_any (bytes_eq key.items) (texts_in keys) ≡ false
    → texts_in (insert_key (λ x y. bytes_eq x.items y.items) keys key) ≡ texts_in keys ++ key.items ∷ []
texts-push keys key new =
    ap (λ t. texts_in (cond t keys (keys ++ key ∷ []))) (sym (any-texts key.items keys) ∙ new)
    ∙ map-append (λ (k : Vec ℕ Global). k.items) keys (key ∷ [])
