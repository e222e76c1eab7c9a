-- A record whose named fields unflattening leaves as they are, and the step of the others: one field after another.
use Rattle.std.proofs.Common.{◌≡◌, ℕ, ◌+◌, Bool, true, false, cond, ◌&&◌, List, [], ◌∷◌, drop, Some, slice_get, refl, ap, sym, ◌∙◌, inl, inr}
use Rattle.std.specs.List.{list_any}
use Rattle.std.proofs.lemmas.Bool.{cases_Bool, or_parts, true≢false}
use Rattle.mlr_spec.specs.Tree.{Tree}
use Rattle.mlr_spec.specs.Pairs.{keys_of, are_distinct, put_at, put_each}
use Rattle.mlr_spec.specs.Flatten.{Nodes, put_in, path_of, with_collection, finished_pairs}
use Rattle.mlr_spec.proofs.Flattening.{put_each-distinct, drop-more}
use Rattle.mlr_record.specs.Nodes.{nodes_of}
use Rattle.mlr_record.specs.Paths.{is_unflattened, ends}
use Rattle.mlr_record.specs.NamedPaths.{is_named, put_if_named, put_named, unflat_named, is_unflattened_named}
use Rattle.mlr_record.proofs.Unflattening.{put_in-plain, put_in-ends, finished-ends}

-- the other half of what isn't so, where one half is
first-fails : (first second : Bool) → (first && second) ≡ false → second ≡ true → first ≡ false
first-fails false second fails holds = refl
first-fails true second fails holds = absurd (true≢false (sym holds ∙ fails))

module _ (separator : List ℕ) (names : List (List ℕ)) where
  -- a field that isn't named, and one that unflattening doesn't change, is set under its whole name
  put_if_named-plain : (p : List ℕ × Tree) (nodes : Nodes) → is_unflattened_named separator names p ≡ false → put_if_named separator names p nodes ≡ put_in (p.0 ∷ []) p.1 nodes
  put_if_named-plain p nodes plain =
      let choice = λ (named : Bool). cond named (put_in (path_of separator p.0) (with_collection p.1) nodes) (put_in (p.0 ∷ []) p.1 nodes) in
      elim (cases_Bool (is_named separator names p.0)) as (λ _. put_if_named separator names p nodes ≡ put_in (p.0 ∷ []) p.1 nodes) [
        | inl named ↦ ap choice named ∙ put_in-plain separator p nodes (first-fails (is_unflattened separator p) (is_named separator names p.0) plain named)
        | inr other ↦ ap choice other
      ]

  put_named-plain : (prefix pairs : List (List ℕ × Tree)) → list_any (is_unflattened_named separator names) pairs ≡ false
      → put_named separator names (nodes_of (ends prefix)) pairs ≡ nodes_of (ends (put_each prefix pairs))
  put_named-plain prefix [] plain = refl
  put_named-plain prefix (p ∷ pairs) plain =
      let parts = or_parts (is_unflattened_named separator names p) (list_any (is_unflattened_named separator names) pairs) plain in
      let put = put_if_named-plain p (nodes_of (ends prefix)) parts.0 ∙ put_in-ends p.0 p.1 prefix in
      ap (λ nodes. put_named separator names nodes pairs) put ∙ put_named-plain (put_at p.0 p.1 prefix) pairs parts.1

  -- a record of which unflattening changes no named field
  pub unflat_named-plain : (pairs : List (List ℕ × Tree)) → are_distinct (keys_of pairs) ≡ true → list_any (is_unflattened_named separator names) pairs ≡ false → unflat_named separator names pairs ≡ pairs
  unflat_named-plain pairs distinct plain =
      ap finished_pairs (put_named-plain [] pairs plain) ∙ finished-ends (put_each [] pairs) ∙ put_each-distinct [] pairs distinct

  -- one more field, set before the remaining ones
  pub named-more : (into after : Nodes) (pairs : List (List ℕ × Tree)) (place : ℕ) (p : List ℕ × Tree) → slice_get pairs place ≡ Some p
      → after ≡ put_if_named separator names p into
      → put_named separator names after (drop (place + 1) pairs) ≡ put_named separator names into (drop place pairs)
  named-more into after pairs place p at put =
      ap (λ nodes. put_named separator names nodes (drop (place + 1) pairs)) put
      ∙ sym (ap (put_named separator names into) (drop-more pairs place p at))
