-- The leaves of the fields that are taken, set one field after another.
use Rattle.std.proofs.Common.{◌≡◌, ℕ, Bool, true, false, cond, ◌&&◌, List, [], ◌∷◌, ◌++◌, refl, ap, ap₂, sym, ◌∙◌, inl, inr}
use Rattle.std.specs.List.{list_any, flat_map}
use Rattle.std.proofs.lemmas.Bool.{or_parts, cases_Bool, true≢false}
use Rattle.std.proofs.lemmas.List.{append-nil}
use Rattle.mlr_spec.specs.Tree.{Tree, absent, empty, string, int, fraction, wide, boolean, mapping, array, error, is_collection}
use Rattle.mlr_spec.specs.Pairs.{put_each, keys_of, are_distinct}
use Rattle.mlr_spec.specs.Flatten.{leaves_of, flat}
use Rattle.mlr_spec.proofs.Flattening.{put_each-distinct, put_each-append}
use Rattle.verbs_values.specs.Flatten.{flattened_field, flattened, is_flattened}
use Rattle.verbs_values.proofs.Putting.{put_each-again}

-- setting the leaves of a field after other fields
pub put-leaves : (separator name : List ℕ) (value : Tree) (into leaves : List (List ℕ × Tree)) → leaves ≡ flat separator ((name, value) ∷ [])
    → put_each into leaves ≡ put_each into (leaves_of separator name value)
put-leaves separator name value into leaves alone =
    ap (put_each into) (alone ∙ ap (put_each []) (append-nil (leaves_of separator name value)))
    ∙ put_each-again into (leaves_of separator name value)

leaf-alone : (separator name : List ℕ) (value : Tree) → is_collection value ≡ false → leaves_of separator name value ≡ (name, value) ∷ []
leaf-alone separator name absent plain = refl
leaf-alone separator name empty plain = refl
leaf-alone separator name (string text) plain = refl
leaf-alone separator name (int n spelling) plain = refl
leaf-alone separator name (fraction text) plain = refl
leaf-alone separator name (wide text) plain = refl
leaf-alone separator name (boolean b) plain = refl
leaf-alone separator name (mapping pairs) plain = absurd (true≢false plain)
leaf-alone separator name (array items) plain = absurd (true≢false plain)
leaf-alone separator name error plain = refl

module _ (separator : List ℕ) (takes : List ℕ → Bool) where
  -- a field that isn't taken, or that holds neither a map nor an array, is unchanged
  pub flattened_field-plain : (p : List ℕ × Tree) → is_flattened takes p ≡ false → flattened_field separator takes p ≡ p ∷ []
  flattened_field-plain p plain =
      elim (cases_Bool (takes p.0)) as (λ _. flattened_field separator takes p ≡ p ∷ []) [
        | inl taken ↦ ap (λ t. cond t (leaves_of separator p.0 p.1) (p ∷ [])) taken ∙ leaf-alone separator p.0 p.1 (sym (ap (λ t. t && is_collection p.1) taken) ∙ plain)
        | inr other ↦ ap (λ t. cond t (leaves_of separator p.0 p.1) (p ∷ [])) other
      ]

  all-plain : (pairs : List (List ℕ × Tree)) → list_any (is_flattened takes) pairs ≡ false → flat_map (flattened_field separator takes) pairs ≡ pairs
  all-plain [] plain = refl
  all-plain (p ∷ pairs) plain =
      let parts = or_parts (is_flattened takes p) (list_any (is_flattened takes) pairs) plain in
      ap₂ (λ x y. x ++ y) (flattened_field-plain p parts.0) (all-plain pairs parts.1)

  pub flattened-plain : (pairs : List (List ℕ × Tree)) → are_distinct (keys_of pairs) ≡ true → list_any (is_flattened takes) pairs ≡ false → pairs ≡ flattened separator takes pairs
  flattened-plain pairs distinct plain = sym (ap (put_each []) (all-plain pairs plain) ∙ put_each-distinct [] pairs distinct)

  -- one more field, before the remaining ones
  pub flattened-more : (p : List ℕ × Tree) (left : List (List ℕ × Tree)) (into after : List (List ℕ × Tree)) → after ≡ put_each into (flattened_field separator takes p)
      → put_each after (flat_map (flattened_field separator takes) left) ≡ put_each into (flat_map (flattened_field separator takes) (p ∷ left))
  flattened-more p left into after put =
      ap (λ x. put_each x (flat_map (flattened_field separator takes) left)) put
      ∙ sym (put_each-append into (flattened_field separator takes p) (flat_map (flattened_field separator takes) left))
