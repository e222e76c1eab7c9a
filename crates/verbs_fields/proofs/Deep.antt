-- Values with their maps sorted, one pair or item after another.
use Rattle.std.proofs.Common.{◌≡◌, ℕ, ◌+◌, true, List, [], ◌∷◌, ◌++◌, drop, Some, slice_get, refl, ap, sym, ◌∙◌, append_assoc}
use Rattle.mlr_spec.specs.Tree.{Tree, fields_of, trees_of}
use Rattle.mlr_spec.specs.Pairs.{keys_of, are_distinct}
use Rattle.mlr_spec.proofs.Flattening.{drop-more}
use Rattle.verbs_fields.specs.SortWithinRecords.{deep_sorted, deep_pairs, deep_items}

deep_pairs-keys : (pairs : List (List ℕ × Tree)) → keys_of (deep_pairs (fields_of pairs)) ≡ keys_of pairs
deep_pairs-keys [] = refl
deep_pairs-keys (p ∷ pairs) = ap (λ keys. p.0 ∷ keys) (deep_pairs-keys pairs)

pub deep_pairs-distinct : (pairs : List (List ℕ × Tree)) → are_distinct (keys_of pairs) ≡ true → are_distinct (keys_of (deep_pairs (fields_of pairs))) ≡ true
deep_pairs-distinct pairs distinct = ap are_distinct (deep_pairs-keys pairs) ∙ distinct

pub deep_pairs-more : (into after pairs : List (List ℕ × Tree)) (place : ℕ) (key : List ℕ) (value : Tree) → slice_get pairs place ≡ Some (key, value)
    → after ≡ into ++ (key, deep_sorted value) ∷ [] → after ++ deep_pairs (fields_of (drop (place + 1) pairs)) ≡ into ++ deep_pairs (fields_of (drop place pairs))
deep_pairs-more into after pairs place key value at pushed =
    let rest = deep_pairs (fields_of (drop (place + 1) pairs)) in
    ap (λ x. x ++ rest) pushed
    ∙ append_assoc into ((key, deep_sorted value) ∷ []) rest
    ∙ sym (ap (λ left. into ++ deep_pairs (fields_of left)) (drop-more pairs place (key, value) at))

pub deep_items-more : (into after items : List Tree) (place : ℕ) (item : Tree) → slice_get items place ≡ Some item
    → after ≡ into ++ deep_sorted item ∷ [] → after ++ deep_items (trees_of (drop (place + 1) items)) ≡ into ++ deep_items (trees_of (drop place items))
deep_items-more into after items place item at pushed =
    let rest = deep_items (trees_of (drop (place + 1) items)) in
    ap (λ x. x ++ rest) pushed
    ∙ append_assoc into (deep_sorted item ∷ []) rest
    ∙ sym (ap (λ left. into ++ deep_items (trees_of left)) (drop-more items place item at))
