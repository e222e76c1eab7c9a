-- A row under distinct names.
use Rattle.std.proofs.Common.{◌≡◌, ℕ, ◌+◌, ◌<◌, true, List, [], ◌∷◌, ◌++◌, length, take, drop, get_or, None, ap, ap₂, sym, ◌∙◌, add-one}
use Rattle.std.proofs.Math.Seq.{drop-cons}
use Rattle.std.proofs.lemmas.List.{map-append, take-append-drop, take_more}
use Rattle.mlr_spec.specs.Pairs.{are_distinct, keys_of, value_at}
use Rattle.mlr_spec.specs.Tree.{Tree}
use Rattle.mlr_event.specs.Reading.{is_among}
use Rattle.mlr_event.proofs.Putting.{free-of-distinct, value_at-free}

pub at-place : (texts : List (List ℕ)) (i : ℕ) (text : List ℕ) → i < length texts → text ≡ get_or texts i text → drop i texts ≡ text ∷ drop (i + 1) texts
at-place texts i text below is = drop-cons texts i text below ∙ ap₂ (λ t n. t ∷ drop n texts) (sym is) (sym (add-one i))

pub free-at : (names : List (List ℕ)) (i : ℕ) (name : List ℕ) (pairs : List (List ℕ × Tree)) → are_distinct names ≡ true → keys_of pairs ≡ take i names → i < length names → name ≡ get_or names i name → value_at name pairs ≡ None
free-at names i name pairs distinct keys below is =
    value_at-free name pairs (
    ap (λ ks. is_among ks name) keys
    ∙ free-of-distinct (take i names) name (drop (i + 1) names) (
    ap are_distinct (ap (λ more. take i names ++ more) (sym (at-place names i name below is)) ∙ take-append-drop i names) ∙ distinct
    )
    )

pub keys-at : (names : List (List ℕ)) (i : ℕ) (name : List ℕ) (value : Tree) (pairs : List (List ℕ × Tree)) → keys_of pairs ≡ take i names → i < length names → name ≡ get_or names i name
    → keys_of (pairs ++ (name, value) ∷ []) ≡ take (i + 1) names
keys-at names i name value pairs keys below is =
    map-append (λ (pair : List ℕ × Tree). pair.0) pairs ((name, value) ∷ []) ∙ ap₂ (λ ks n. ks ++ n ∷ []) keys is ∙ sym (take_more names i name below)
