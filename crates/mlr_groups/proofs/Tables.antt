-- The keys of a table as texts.
use Rattle.std.proofs.Common.{◌≡◌, ℕ, zero, suc, true, false, cond, ◌||◌, List, [], ◌∷◌, ◌++◌, length, Vec, Global, Option, Some, None, IfSome, position, slice_get, refl, ap, sym, ◌∙◌, inl, inr}
use Rattle.std.specs.List.{list_any, IsDistinct, AllByRecursion}
use Rattle.std.specs.Str.{bytes_eq}
use Rattle.std.proofs.lemmas.Bool.{cases_Bool, not_from_false, and_from, or_from}
use Rattle.std.proofs.lemmas.List.{map-append}
use Rattle.std.proofs.lemmas.Slice.Eq.{bytes_eq-Decides}
use Rattle.indexmap.specs.IndexSet.{insert_key}
use Rattle.mlr_spec.specs.Pairs.{are_distinct}
use Rattle.mlr_event.specs.Reading.{is_among}
use Rattle.mlr_keys.specs.Keys.{texts_in}
use Rattle.mlr_keys.proofs.Sets.{Keys, IsAt, IsAt-position, is_text}
use Rattle.mlr_groups.specs.Keys.{entered}

pub among-texts : (text : List ℕ) (keys : Keys) → is_among (texts_in keys) text ≡ list_any (is_text text) keys
among-texts text [] = refl
among-texts text (key ∷ keys) = ap (λ t. bytes_eq text key.items || t) (among-texts text keys)

pub text-at : (text : List ℕ) (keys : Keys) (i : ℕ) → IsAt text keys i → slice_get (texts_in keys) i ≡ Some text
text-at text [] i at = absurd at
text-at text (key ∷ keys) zero at = ap Some ((bytes_eq-Decides key.items text).0 at)
text-at text (key ∷ keys) (suc i) at = text-at text keys i at.1

pub among-at : (text : List ℕ) (keys : Keys) (i : ℕ) → IsAt text keys i → is_among (texts_in keys) text ≡ true
among-at text [] i at = absurd at
among-at text (key ∷ keys) zero at =
    let here : bytes_eq text key.items ≡ true = (bytes_eq-Decides text key.items).1 (sym ((bytes_eq-Decides key.items text).0 at)) in
    ap (λ t. t || is_among (texts_in keys) text) here
among-at text (key ∷ keys) (suc i) at =
    elim (cases_Bool (bytes_eq text key.items)) as (λ _. is_among (texts_in (key ∷ keys)) text ≡ true) [
      | inl here ↦ ap (λ t. t || is_among (texts_in keys) text) here
      | inr apart ↦ ap (λ t. t || is_among (texts_in keys) text) apart ∙ among-at text keys i at.1
    ]

-- the key that a search found
pub text-found : (text : List ℕ) (keys : Keys) (place : Option ℕ) → place ≡ position (is_text text) keys → IfSome place (λ i. slice_get (texts_in keys) i ≡ Some text)
text-found text keys None found = tt
text-found text keys (Some i) found = text-at text keys i (IsAt-position text keys i found)

-- a new key is added at the end
pub texts-push : (keys : Keys) (key : Vec ℕ Global) → is_among (texts_in keys) key.items ≡ false
    → texts_in (insert_key (λ x y. bytes_eq x.items y.items) keys key) ≡ texts_in keys ++ key.items ∷ []
texts-push keys key new =
    ap (λ t. texts_in (cond t keys (keys ++ key ∷ []))) (sym (among-texts key.items keys) ∙ new)
    ∙ map-append (λ (k : Vec ℕ Global). k.items) keys (key ∷ [])

pub slice_get-last : {A : Type 0} (xs : List A) (x : A) → slice_get (xs ++ x ∷ []) (length xs) ≡ Some x
slice_get-last [] x = refl
slice_get-last (y ∷ xs) x = slice_get-last xs x

-- entering a known key and a new one
pub entered-known : (keys : List (List ℕ)) (key : List ℕ) → is_among keys key ≡ true → entered keys key ≡ keys
entered-known keys key known = ap (λ t. cond t keys (keys ++ key ∷ [])) known

pub entered-new : (keys : List (List ℕ)) (key : List ℕ) → is_among keys key ≡ false → entered keys key ≡ keys ++ key ∷ []
entered-new keys key new = ap (λ t. cond t keys (keys ++ key ∷ [])) new

any-apart : (text : List ℕ) (keys : Keys) → AllByRecursion (λ key. bytes_eq text key.items ≡ false) keys → list_any (bytes_eq text) (texts_in keys) ≡ false
any-apart text [] h = refl
any-apart text (key ∷ keys) h = or_from _ _ h.0 (any-apart text keys h.1)

pub texts-distinct : (keys : Keys) → IsDistinct (λ x y. bytes_eq x.items y.items) keys → are_distinct (texts_in keys) ≡ true
unfolding IsDistinct
texts-distinct [] h = refl
texts-distinct (key ∷ keys) h = and_from _ _ (not_from_false _ (any-apart key.items keys h.0)) (texts-distinct keys h.1)
