-- What is found and set at the place of a name.
use Rattle.std.proofs.Common.{◌≡◌, ℕ, zero, suc, ◌<◌, true, false, List, [], ◌∷◌, ◌++◌, length, take, get_or, set, Some, None, refl, ap, sym, ◌∙◌, arith}
use Rattle.std.specs.List.{list_any}
use Rattle.std.proofs.lemmas.Bool.{or_parts}
use Rattle.mlr_spec.specs.Tree.{Tree}
use Rattle.mlr_spec.specs.Pairs.{value_at, put_at}
use Rattle.mlr_value.specs.Value.{tree_of}
use Rattle.mlr_value.specs.declared.value.Value.{Value}
use Rattle.mlr_record.specs.declared.record.Field.{Field}
use Rattle.mlr_record.specs.Fields.{pairs_of, pair_of, has_name, IsPlaceOf}
use Rattle.std.proofs.lemmas.List.{map-append}

pub value_at-absent : (key : List ℕ) (fields : List Field) → list_any (has_name key) fields ≡ false → value_at key (pairs_of fields) ≡ None
value_at-absent key [] h = refl
value_at-absent key (f ∷ fields) h =
    let parts = or_parts (has_name key f) (list_any (has_name key) fields) h in
    rw parts.0 (value_at-absent key fields parts.1)

pub value_at-place : (key : List ℕ) (fields : List Field) (i : ℕ) (d : Field) → i < length fields → list_any (has_name key) (take i fields) ≡ false → has_name key (get_or fields i d) ≡ true
    → value_at key (pairs_of fields) ≡ Some (tree_of (get_or fields i d).value)
value_at-place key [] i d below absent here = absurd (omega arith)
value_at-place key (f ∷ fields) zero d below absent here = rw here
value_at-place key (f ∷ fields) (suc i) d below absent here =
    let parts = or_parts (has_name key f) (list_any (has_name key) (take i fields)) absent in
    rw parts.0 (value_at-place key fields i d (omega arith) parts.1 here)

-- a new name goes last
pub put_at-absent : (key : List ℕ) (value : Tree) (fields : List Field) → list_any (has_name key) fields ≡ false → put_at key value (pairs_of fields) ≡ pairs_of fields ++ (key, value) ∷ []
put_at-absent key value [] h = refl
put_at-absent key value (f ∷ fields) h =
    let parts = or_parts (has_name key f) (list_any (has_name key) fields) h in
    rw parts.0 (ap (λ x. pair_of f ∷ x) (put_at-absent key value fields parts.1))

-- a name that is there keeps its place
pub put_at-place : (key : List ℕ) (value : Value) (fields : List Field) (i : ℕ) (d : Field) → i < length fields → list_any (has_name key) (take i fields) ≡ false → has_name key (get_or fields i d) ≡ true
    → put_at key (tree_of value) (pairs_of fields) ≡ pairs_of (set fields i (record { name = (get_or fields i d).name; value = value }))
put_at-place key value [] i d below absent here = absurd (omega arith)
put_at-place key value (f ∷ fields) zero d below absent here = rw here
put_at-place key value (f ∷ fields) (suc i) d below absent here =
    let parts = or_parts (has_name key f) (list_any (has_name key) (take i fields)) absent in
    rw parts.0 (ap (λ x. pair_of f ∷ x) (put_at-place key value fields i d (omega arith) parts.1 here))

module _ (key : List ℕ) (value : Value) (fields : List Field) where
  -- a field that was pushed for a new name
  pub pairs_of-push : (name : List ℕ) → name ≡ key → list_any (has_name key) fields ≡ false
      → pairs_of (fields ++ record { name = name; value = value } ∷ []) ≡ put_at key (tree_of value) (pairs_of fields)
  pairs_of-push name same absent =
      map-append pair_of fields _ ∙ ap (λ n. pairs_of fields ++ (n, tree_of value) ∷ []) same ∙ sym (put_at-absent key (tree_of value) fields absent)

  -- a value that was written at the place of its name
  pub pairs_of-set : (i : ℕ) (old : Field) → old ≡ get_or fields i old → IsPlaceOf key fields (Some i)
      → pairs_of (set fields i (record { name = old.name; value = value })) ≡ put_at key (tree_of value) (pairs_of fields)
  pairs_of-set i old is place =
      ap (λ f. pairs_of (set fields i (record { name = f.name; value = value }))) is
      ∙ sym (put_at-place key value fields i old place.0 place.1 (place.2 old))
