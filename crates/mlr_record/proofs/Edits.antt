-- A record after a removal, after a field was inserted at its start and after a renaming, and the place of a
-- name.
use Rattle.std.proofs.Common.{◌≡◌, ℕ, zero, suc, ◌+◌, ◌<◌, true, false, List, [], ◌∷◌, ◌++◌, length, take, drop, remove, get_or, set, Vec, Global, Option, Some, None, is_some, is_none, refl, ap, sym, subst, ◌∙◌, arith, tests, one-add, add-one, get_or-set_same, length-take, take-take, ap₂, ◌-◌}
use Rattle.std.specs.List.{list_any, position_or_len}
use Rattle.std.specs.Str.{bytes_eq}
use Rattle.std.proofs.lemmas.Bool.{or_parts, or_from, or_right, cond-false, cond-true, true≢false}
use Rattle.std.proofs.lemmas.Slice.Eq.{bytes_eq-Decides}
use Rattle.std.proofs.lemmas.List.{length-map, with_items_is}
use Rattle.std.specs.Vec.{with_item, with_items}
use Rattle.mlr_spec.specs.Pairs.{value_at, remove_at, place_at, with_name, rename_at}
use Rattle.mlr_value.specs.Value.{tree_of}
use Rattle.mlr_value.specs.declared.value.Value.{Value}
use Rattle.mlr_record.specs.declared.record.Field.{Field}
use Rattle.mlr_record.specs.Fields.{pairs_of, pair_of, has_name, IsPlaceOf}
use Rattle.mlr_record.proofs.Places.{value_at-absent, value_at-place}

module _ (key : List ℕ) where
  place-absent : (fields : List Field) → list_any (has_name key) fields ≡ false → position_or_len (λ pair. bytes_eq pair.0 key) (pairs_of fields) ≡ length (pairs_of fields)
  place-absent [] h = refl
  place-absent (f ∷ fields) h =
      let parts = or_parts (has_name key f) (list_any (has_name key) fields) h in
      rw parts.0 (ap (λ n. 1 + n) (place-absent fields parts.1) ∙ one-add _)

  place-here : (fields : List Field) (i : ℕ) (d : Field) → i < length fields → list_any (has_name key) (take i fields) ≡ false → has_name key (get_or fields i d) ≡ true
      → position_or_len (λ pair. bytes_eq pair.0 key) (pairs_of fields) ≡ i
  place-here [] i d below absent here = absurd (omega arith)
  place-here (f ∷ fields) zero d below absent here = rw here refl
  place-here (f ∷ fields) (suc i) d below absent here =
      let parts = or_parts (has_name key f) (list_any (has_name key) (take i fields)) absent in
      rw parts.0 (ap (λ n. 1 + n) (place-here fields i d (omega arith) parts.1 here) ∙ one-add _)

  pub remove_at-absent : (fields : List Field) → list_any (has_name key) fields ≡ false → remove_at key (pairs_of fields) ≡ pairs_of fields
  remove_at-absent [] h = refl
  remove_at-absent (f ∷ fields) h =
      let parts = or_parts (has_name key f) (list_any (has_name key) fields) h in
      rw parts.0 (ap (λ x. pair_of f ∷ x) (remove_at-absent fields parts.1))

  pub remove_at-place : (fields : List Field) (i : ℕ) (d : Field) → i < length fields → list_any (has_name key) (take i fields) ≡ false → has_name key (get_or fields i d) ≡ true
      → remove_at key (pairs_of fields) ≡ pairs_of (remove fields i)
  remove_at-place [] i d below absent here = absurd (omega arith)
  remove_at-place (f ∷ fields) zero d below absent here = rw here refl
  remove_at-place (f ∷ fields) (suc i) d below absent here =
      let parts = or_parts (has_name key f) (list_any (has_name key) (take i fields)) absent in
      rw parts.0 (ap (λ x. pair_of f ∷ x) (remove_at-place fields i d (omega arith) parts.1 here))

-- a field of a list that has one
pub some_field : (fields : List Field) (i : ℕ) → i < length fields → Field
some_field [] i below = absurd (omega arith)
some_field (f ∷ fields) i below = f

module _ (key : List ℕ) (fields : List Field) where
  pub place_at-found : (place : Option ℕ) → IsPlaceOf key fields place → place ≡ place_at key (pairs_of fields)
  place_at-found None absent = let e = place-absent key fields absent in grind (arith, tests)
  place_at-found (Some i) is =
      let d = some_field fields i is.0 in
      let e = place-here key fields i d is.0 is.1 (is.2 d) in
      let long : length (pairs_of fields) ≡ length fields = length-map fields pair_of in
      let below : i < length fields = is.0 in
      grind (arith, tests)

  pub value_at-found : (place : Option ℕ) → IsPlaceOf key fields place → is_some place ≡ is_some (value_at key (pairs_of fields))
  value_at-found None absent = ap is_some (sym (value_at-absent key fields absent))
  value_at-found (Some i) is =
      let d = some_field fields i is.0 in
      ap is_some (sym (value_at-place key fields i d is.0 is.1 (is.2 d)))

  pub remove_at-found : (i : ℕ) → IsPlaceOf key fields (Some i) → remove_at key (pairs_of fields) ≡ pairs_of (remove fields i)
  remove_at-found i is = let d = some_field fields i is.0 in remove_at-place key fields i d is.0 is.1 (is.2 d)

module _ (old new : List ℕ) where
  -- a name that is given at the place of the old one
  with_name-place : (fields : List Field) (i : ℕ) (d : Field) → i < length fields → list_any (has_name old) (take i fields) ≡ false → has_name old (get_or fields i d) ≡ true
      → with_name old new (pairs_of fields) ≡ pairs_of (set fields i (record { name = new; value = (get_or fields i d).value }))
  with_name-place [] i d below absent here = absurd (omega arith)
  with_name-place (f ∷ fields) zero d below absent here = rw here refl
  with_name-place (f ∷ fields) (suc i) d below absent here =
      let parts = or_parts (has_name old f) (list_any (has_name old) (take i fields)) absent in
      rw parts.0 (ap (λ x. pair_of f ∷ x) (with_name-place fields i d (omega arith) parts.1 here))

  -- the same, where another field of the new name is taken out
  renamed-place : (fields : List Field) (i j : ℕ) (d e : Field) → bytes_eq old new ≡ false
      → i < length fields → list_any (has_name old) (take i fields) ≡ false → has_name old (get_or fields i d) ≡ true
      → j < length fields → list_any (has_name new) (take j fields) ≡ false → has_name new (get_or fields j e) ≡ true
      → with_name old new (remove_at new (pairs_of fields)) ≡ pairs_of (remove (set fields i (record { name = new; value = (get_or fields i d).value })) j)
  renamed-place [] i j d e apart below absent here below_2 absent_2 here_2 = absurd (omega arith)
  renamed-place (f ∷ fields) zero zero d e apart below absent here below_2 absent_2 here_2 =
      let same : bytes_eq old new ≡ true = subst (λ name. bytes_eq name new ≡ true) ((bytes_eq-Decides f.name old).0 here) here_2 in
      absurd (true≢false (sym same ∙ apart))
  renamed-place (f ∷ fields) zero (suc j) d e apart below absent here below_2 absent_2 here_2 =
      let parts = or_parts (has_name new f) (list_any (has_name new) (take j fields)) absent_2 in
      rw parts.0 (rw here (ap (λ x. (new, tree_of f.value) ∷ x) (remove_at-place new fields j e (omega arith) parts.1 here_2)))
  renamed-place (f ∷ fields) (suc i) zero d e apart below absent here below_2 absent_2 here_2 =
      let parts = or_parts (has_name old f) (list_any (has_name old) (take i fields)) absent in
      rw here_2 (with_name-place fields i d (omega arith) parts.1 here)
  renamed-place (f ∷ fields) (suc i) (suc j) d e apart below absent here below_2 absent_2 here_2 =
      let parts = or_parts (has_name old f) (list_any (has_name old) (take i fields)) absent in
      let parts_2 = or_parts (has_name new f) (list_any (has_name new) (take j fields)) absent_2 in
      rw parts_2.0 (rw parts.0 (ap (λ x. pair_of f ∷ x) (renamed-place fields i j d e apart (omega arith) parts.1 here (omega arith) parts_2.1 here_2)))

  pub renamed-alone : (fields : List Field) (i : ℕ) (d : Field) → IsPlaceOf old fields (Some i) → IsPlaceOf new fields None
      → with_name old new (remove_at new (pairs_of fields)) ≡ pairs_of (set fields i (record { name = new; value = (get_or fields i d).value }))
  renamed-alone fields i d is absent = ap (with_name old new) (remove_at-absent new fields absent) ∙ with_name-place fields i d is.0 is.1 (is.2 d)

  pub renamed-both : (fields : List Field) (i j : ℕ) (d : Field) → bytes_eq old new ≡ false → IsPlaceOf old fields (Some i) → IsPlaceOf new fields (Some j)
      → with_name old new (remove_at new (pairs_of fields)) ≡ pairs_of (remove (set fields i (record { name = new; value = (get_or fields i d).value })) j)
  renamed-both fields i j d apart is other = renamed-place fields i j d d apart is.0 is.1 (is.2 d) other.0 other.1 (other.2 d)

remove-set : (fields : List Field) (i : ℕ) (f : Field) → remove (set fields i f) i ≡ remove fields i
remove-set [] i f = refl
remove-set (g ∷ fields) zero f = refl
remove-set (g ∷ fields) (suc i) f = ap (λ x. g ∷ x) (remove-set fields i f)

-- a field that got a value and was moved before the others
put-first : (key : List ℕ) (value : Value) (fields : List Field) (i : ℕ) (d : Field) → IsPlaceOf key fields (Some i) → d ≡ get_or fields i d → (after : List Field)
    → ((f : Field) → after ≡ get_or (set fields i (record { name = d.name; value = value })) i f ∷ remove (set fields i (record { name = d.name; value = value })) i)
    → pairs_of after ≡ (key, tree_of value) ∷ remove_at key (pairs_of fields)
put-first key value fields i d is same after moved =
    let f : Field = record { name = d.name; value = value } in
    let named : d.name ≡ key = ap (λ g. g.name) same ∙ (bytes_eq-Decides (get_or fields i d).name key).0 (is.2 d) in
    ap pairs_of (moved f) ∙ ap (λ g. pair_of g ∷ pairs_of (remove (set fields i f) i)) (get_or-set_same fields i f f is.0)
    ∙ ap (λ name. (name, tree_of value) ∷ pairs_of (remove (set fields i f) i)) named
    ∙ ap (λ x. (key, tree_of value) ∷ x) (ap pairs_of (remove-set fields i f) ∙ sym (remove_at-found key fields i is))

-- the same of the record's vector, which was lent as a slice twice
pub put-first-lent : (key : List ℕ) (value : Value) (fields : Vec Field Global) (i : ℕ) (d : Field) (searched lent after : List Field)
    → searched ≡ fields.items → IsPlaceOf key searched (Some i) → d ≡ get_or fields.items i d
    → lent ≡ set fields.items i (record { name = d.name; value = value }) → length lent ≡ fields.len
    → ((f : Field) → after ≡ get_or lent i f ∷ remove lent i) → length after ≡ length lent
    → pairs_of (with_items (with_item fields i (record { name = d.name; value = value })) after).items ≡ (key, tree_of value) ∷ remove_at key (pairs_of fields.items)
put-first-lent key value fields i d searched lent after whole is same given long moved kept =
    ap pairs_of (with_items_is (with_item fields i (record { name = d.name; value = value })) after (kept ∙ long))
    ∙ put-first key value fields.items i d (subst (λ xs. IsPlaceOf key xs (Some i)) whole is) same after
    (subst (λ xs. (f : Field) → after ≡ get_or xs i f ∷ remove xs i) given moved)

module _ (old new : List ℕ) (fields : List Field) where
  -- where no field has the old name, nothing changes
  pub rename_at-absent : IsPlaceOf old fields None → rename_at old new (pairs_of fields) ≡ pairs_of fields
  rename_at-absent absent =
      let none : is_none (value_at old (pairs_of fields)) ≡ true = ap is_none (value_at-absent old fields absent) in
      cond-true _ _ _ (or_right (bytes_eq old new) _ none)

  pub rename_at-found : (i : ℕ) → bytes_eq old new ≡ false → IsPlaceOf old fields (Some i) → rename_at old new (pairs_of fields) ≡ with_name old new (remove_at new (pairs_of fields))
  rename_at-found i apart is =
      let d = some_field fields i is.0 in
      let there : is_none (value_at old (pairs_of fields)) ≡ false = ap is_none (value_at-place old fields i d is.0 is.1 (is.2 d)) in
      cond-false _ _ _ (or_from (bytes_eq old new) _ apart there)

last-of-prefix : (fields : List Field) (i : ℕ) (d : Field) → i < length fields → drop i (take (suc i) fields) ≡ get_or fields i d ∷ []
last-of-prefix [] i d below = absurd (omega arith)
last-of-prefix (f ∷ fields) zero d below = refl
last-of-prefix (f ∷ fields) (suc i) d below = last-of-prefix fields i d (omega arith)

-- the fields up to a place, turned round by one
pub moved-first : (fields prefix : List Field) (i : ℕ) (d : Field) → i < length fields
    → prefix ≡ drop (length (take (i + 1) fields) - 1) (take (i + 1) fields) ++ take (length (take (i + 1) fields) - 1) (take (i + 1) fields)
    → prefix ++ drop (i + 1) fields ≡ get_or fields i d ∷ remove fields i
moved-first fields prefix i d below turned =
    let k : length (take (i + 1) fields) - 1 ≡ i = let l = length-take (i + 1) fields in omega arith in
    let is : prefix ≡ get_or fields i d ∷ take i fields =
    turned ∙ ap (λ m. drop m (take (i + 1) fields) ++ take m (take (i + 1) fields)) k
    ∙ ap (λ m. drop i (take m fields) ++ take i (take m fields)) (add-one i)
    ∙ ap₂ (λ x y. x ++ y) (last-of-prefix fields i d below) (take-take i (suc i) fields (omega arith)) in
    ap (λ x. x ++ drop (i + 1) fields) is ∙ ap (λ m. get_or fields i d ∷ (take i fields ++ drop m fields)) (add-one i)
