-- A field that is removed at its place.
use Rattle.std.proofs.Common.{◌≡◌, ℕ, zero, suc, ◌<◌, true, false, List, [], ◌∷◌, length, take, remove, get_or, slice_get, slice_index_or, Some, None, refl, ap, sym, ◌∙◌, arith}
use Rattle.std.specs.List.{list_any}
use Rattle.std.specs.Option.{option_map}
use Rattle.std.proofs.lemmas.Bool.{or_parts}
use Rattle.std.proofs.lemmas.Slice.Eq.{bytes_eq-Decides}
use Rattle.mlr_spec.specs.Tree.{Tree}
use Rattle.mlr_spec.specs.Pairs.{remove_at}
use Rattle.mlr_value.specs.Value.{tree_of}
use Rattle.mlr_record.specs.declared.record.Field.{Field}
use Rattle.mlr_record.specs.Fields.{pairs_of, pair_of, has_name, IsPlaceOf}
use Rattle.mlr_record.proofs.Places.{value_at-absent, value_at-place}
use Rattle.verbs_base.specs.Choosing.{named}

pub remove_at-absent : (key : List ℕ) (fields : List Field) → IsPlaceOf key fields None → remove_at key (pairs_of fields) ≡ pairs_of fields
remove_at-absent key [] h = refl
remove_at-absent key (f ∷ fields) h =
    let parts = or_parts (has_name key f) (list_any (has_name key) fields) h in
    rw parts.0 (ap (λ x. pair_of f ∷ x) (remove_at-absent key fields parts.1))

remove_at-place : (key : List ℕ) (fields : List Field) (i : ℕ) (d : Field) → i < length fields → list_any (has_name key) (take i fields) ≡ false → has_name key (get_or fields i d) ≡ true
    → pairs_of (remove fields i) ≡ remove_at key (pairs_of fields)
remove_at-place key [] i d below absent here = absurd (omega arith)
remove_at-place key (f ∷ fields) zero d below absent here = rw here refl
remove_at-place key (f ∷ fields) (suc i) d below absent here =
    let parts = or_parts (has_name key f) (list_any (has_name key) (take i fields)) absent in
    rw parts.0 (ap (λ x. pair_of f ∷ x) (remove_at-place key fields i d (omega arith) parts.1 here))

module _ (key : List ℕ) (fields : List Field) where
  pub named-absent : IsPlaceOf key fields None → named (pairs_of fields) key ≡ None
  named-absent absent = ap (option_map (λ (value : Tree). (key, value))) (value_at-absent key fields absent)

  module _ (i : ℕ) (old : Field) (is : old ≡ get_or fields i old) (place : IsPlaceOf key fields (Some i)) where
    pub named-place : Some (pair_of old) ≡ named (pairs_of fields) key
    named-place =
        ap (λ f. Some (pair_of f)) is
        ∙ ap (λ name. Some (name, tree_of (get_or fields i old).value)) ((bytes_eq-Decides (get_or fields i old).name key).0 (place.2 old))
        ∙ sym (ap (option_map (λ (value : Tree). (key, value))) (value_at-place key fields i old place.0 place.1 (place.2 old)))

    pub removed-place : pairs_of (remove fields i) ≡ remove_at key (pairs_of fields)
    removed-place = remove_at-place key fields i old place.0 place.1 (place.2 old)

-- the field at a place, as a pair
pub pair-at : (fields : List Field) (place : ℕ) (d : Field) → place < length (pairs_of fields) → slice_get (pairs_of fields) place ≡ Some (pair_of (slice_index_or fields place d))
pair-at [] place d below = absurd (let e : place < 0 = below in omega (arith, e))
pair-at (f ∷ fields) zero d below = refl
pair-at (f ∷ fields) (suc place) d below = pair-at fields place d (omega (arith, below))
