-- Texts and values without spaces are unchanged.
use Rattle.std.proofs.Common.{◌≡◌, ◌==◌, ℕ, Bool, true, false, cond, ◌&&◌, List, [], ◌∷◌, ◌++◌, map, refl, ap, ap₂, ◌∙◌}
use Rattle.std.specs.List.{list_any}
use Rattle.std.proofs.lemmas.Bool.{or_parts}
use Rattle.mlr_spec.specs.Tree.{Tree, absent, empty, string, int, fraction, wide, boolean, mapping, array, error}
use Rattle.mlr_spec.specs.Pairs.{keys_of, are_distinct, put_each}
use Rattle.mlr_spec.specs.Infer.{tree_of_data}
use Rattle.mlr_spec.proofs.Flattening.{put_each-distinct}
use Rattle.verbs_fields.specs.declared.unspace.Unspace.{Unspace}
use Rattle.verbs_fields.specs.Unspace.{has_space, unspaced_text, unspaced_value, unspaced_field, unspace, takes_keys, takes_values, is_spaced, is_spaced_string}

pub unspaced_text-plain : (other text : List ℕ) → has_space text ≡ false → unspaced_text other text ≡ text
unspaced_text-plain other [] plain = refl
unspaced_text-plain other (b ∷ text) plain =
    let parts = or_parts (b == 32) (has_space text) plain in
    ap₂ (λ x y. x ++ y) (ap (λ t. cond t other (b ∷ [])) parts.0) (unspaced_text-plain other text parts.1)

unspaced_value-plain : (other : List ℕ) (value : Tree) → is_spaced_string value ≡ false → unspaced_value other value ≡ value
unspaced_value-plain other absent plain = refl
unspaced_value-plain other empty plain = refl
unspaced_value-plain other (string text) plain =
    ap (λ t. cond t (tree_of_data (record { none = false; octal = false }) (unspaced_text other text)) (string text)) plain
unspaced_value-plain other (int n spelling) plain = refl
unspaced_value-plain other (fraction text) plain = refl
unspaced_value-plain other (wide text) plain = refl
unspaced_value-plain other (boolean b) plain = refl
unspaced_value-plain other (mapping pairs) plain = refl
unspaced_value-plain other (array items) plain = refl
unspaced_value-plain other error plain = refl

unspaced_field-plain : (verb : Unspace) (pair : List ℕ × Tree) → is_spaced verb.part pair ≡ false → unspaced_field verb pair ≡ pair
unspaced_field-plain verb pair plain =
    let parts = or_parts (takes_keys verb.part && has_space pair.0) (takes_values verb.part && is_spaced_string pair.1) plain in
    ap₂ (λ name value. (name, value)) (name (takes_keys verb.part) parts.0) (value (takes_values verb.part) parts.1)
  where
    name : (taken : Bool) → (taken && has_space pair.0) ≡ false → cond taken (unspaced_text verb.text pair.0) pair.0 ≡ pair.0
    name true plain = unspaced_text-plain verb.text pair.0 plain
    name false plain = refl

    value : (taken : Bool) → (taken && is_spaced_string pair.1) ≡ false → cond taken (unspaced_value verb.text pair.1) pair.1 ≡ pair.1
    value true plain = unspaced_value-plain verb.text pair.1 plain
    value false plain = refl

all-plain : (verb : Unspace) (pairs : List (List ℕ × Tree)) → list_any (is_spaced verb.part) pairs ≡ false → map (unspaced_field verb) pairs ≡ pairs
all-plain verb [] plain = refl
all-plain verb (p ∷ pairs) plain =
    let parts = or_parts (is_spaced verb.part p) (list_any (is_spaced verb.part) pairs) plain in
    ap₂ (λ x xs. x ∷ xs) (unspaced_field-plain verb p parts.0) (all-plain verb pairs parts.1)

pub unspaced-plain : (verb : Unspace) (pairs : List (List ℕ × Tree)) → are_distinct (keys_of pairs) ≡ true → list_any (is_spaced verb.part) pairs ≡ false → unspace verb pairs ≡ pairs
unspaced-plain verb pairs distinct plain = ap (put_each []) (all-plain verb pairs plain) ∙ put_each-distinct [] pairs distinct
