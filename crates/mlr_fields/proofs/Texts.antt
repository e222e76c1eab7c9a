-- The names of an index as texts.
use Rattle.std.proofs.Common.{◌≡◌, ℕ, zero, suc, false, cond, ◌||◌, List, [], ◌∷◌, ◌++◌, Vec, Global, Option, Some, None, IfSome, slice_get, position, refl, ap, ◌∙◌}
use Rattle.std.specs.List.{list_any}
use Rattle.std.specs.Str.{bytes_eq}
use Rattle.std.proofs.lemmas.List.{map-append}
use Rattle.std.proofs.lemmas.Slice.Eq.{bytes_eq-Decides}
use Rattle.indexmap.specs.IndexSet.{insert_key}
use Rattle.mlr_event.specs.Reading.{is_among}
use Rattle.mlr_keys.specs.Keys.{texts_in}
use Rattle.mlr_keys.proofs.Sets.{Keys, IsAt, IsAt-position, is_text}

pub among-texts : (text : List ℕ) (keys : Keys) → list_any (is_text text) keys ≡ is_among (texts_in keys) text
among-texts text [] = refl
among-texts text (key ∷ keys) = ap (λ t. bytes_eq text key.items || t) (among-texts text keys)

pub text-at : (text : List ℕ) (keys : Keys) (i : ℕ) → IsAt text keys i → slice_get (texts_in keys) i ≡ Some text
text-at text [] i at = absurd at
text-at text (key ∷ keys) zero at = ap Some ((bytes_eq-Decides key.items text).0 at)
text-at text (key ∷ keys) (suc i) at = text-at text keys i at.1

-- a new name is added at the end
pub texts-pushed : (keys : Keys) (key : Vec ℕ Global) → is_among (texts_in keys) key.items ≡ false
    → texts_in (insert_key (λ x y. bytes_eq x.items y.items) keys key) ≡ texts_in keys ++ key.items ∷ []
texts-pushed keys key new =
    ap (λ t. texts_in (cond t keys (keys ++ key ∷ []))) (among-texts key.items keys ∙ new)
    ∙ map-append (λ (k : Vec ℕ Global). k.items) keys (key ∷ [])

-- the place of a text
pub text-found : (text : List ℕ) (keys : Keys) (place : Option ℕ) → place ≡ position (is_text text) keys → IfSome place (λ i. slice_get (texts_in keys) i ≡ Some text)
text-found text keys None is = tt
text-found text keys (Some i) is = text-at text keys i (IsAt-position text keys i is)
