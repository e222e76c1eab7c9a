-- The record of a group with one more record, and the keys with one more.
use Rattle.std.proofs.Common.{◌≡◌, ℕ, Bool, true, false, not, ◌||◌, cond, List, [], ◌∷◌, ◌++◌, Option, Some, None, is_some, refl, ap, sym, ◌∙◌, inl, inr}
use Rattle.std.specs.List.{cons_option}
use Rattle.std.specs.Option.{option_map, option_to_list}
use Rattle.std.specs.Str.{bytes_eq}
use Rattle.std.proofs.lemmas.Bool.{cases_Bool, true≢false}
use Rattle.std.proofs.lemmas.List.{append-nil, map-append}
use Rattle.std.proofs.lemmas.List.Elements.{filter_agree, filter_map-append}
use Rattle.std.proofs.lemmas.Slice.Eq.{bytes_eq-Decides}
use Rattle.mlr_event.specs.Reading.{is_among}
use Rattle.mlr_event.specs.declared.event.Event.{Event}
use Rattle.mlr_groups.specs.Grouping.{each_once}
use Rattle.mlr_groups.specs.Keys.{entered}
use Rattle.mlr_groups.proofs.Once.{each_once-known, each_once-new}
use Rattle.mlr_spec.specs.Pairs.{are_distinct, keys_of, put_at, put_each, remove_at, value_at}
use Rattle.mlr_spec.specs.Tree.{Tree}
use Rattle.mlr_spec.proofs.Pairs.{are_distinct-remove}
use Rattle.text_forms.specs.Shown.{shown}
use Rattle.verbs_base.specs.Choosing.{dropped}
use Rattle.verbs_base.specs.Records.{Fields, Row, events_of, rows_in}
use Rattle.verbs_base.proofs.Picking.{dropped-more, dropped-none}
use Rattle.verbs_reshape.specs.ToWide.{both, filled_rows, keys_in, pair_in, paired, pairs_in, wide_record}
use Rattle.verbs_reshape.specs.declared.to_wide.ToWide.{ToWide}

-- the other fields are left when the two are removed
or-swap : (x y : Bool) → (x || (y || false)) ≡ (y || (x || false))
or-swap true true = refl
or-swap true false = refl
or-swap false true = refl
or-swap false false = refl

pub others-left : (options : ToWide) (fields : Fields) → are_distinct (keys_of fields) ≡ true → remove_at options.key (remove_at options.value fields) ≡ dropped (both options) fields
others-left options fields distinct =
    sym (dropped-none (remove_at options.key (remove_at options.value fields)))
    ∙ sym (dropped-more options.key [] (remove_at options.value fields) (are_distinct-remove options.value fields distinct))
    ∙ sym (dropped-more options.value (options.key ∷ []) fields distinct)
    ∙ filter_agree (λ pair. not (is_among (options.value ∷ options.key ∷ []) pair.0)) (λ pair. not (is_among (both options) pair.0))
    (λ pair. ap not (or-swap (bytes_eq pair.0 options.value) (bytes_eq pair.0 options.key))) fields

one-pair : {A : Type 0} (found : Option A) → cons_option found [] ≡ option_to_list found
one-pair None = refl
one-pair (Some pair) = refl

pairs-more : (options : ToWide) (rows : List Row) (row : Row) → pairs_in options (rows ++ row ∷ []) ≡ pairs_in options rows ++ option_to_list (pair_in options row.0)
pairs-more options rows row =
    filter_map-append (λ (row : Row). pair_in options row.0) rows (row ∷ []) ∙ ap (λ pairs. pairs_in options rows ++ pairs) (one-pair (pair_in options row.0))

put_each-append : (pairs more last : Fields) → put_each pairs (more ++ last) ≡ put_each (put_each pairs more) last
put_each-append pairs [] last = refl
put_each-append pairs (pair ∷ more) last = put_each-append (put_at pair.0 pair.1 pairs) more last

-- the record so far, or the other fields of the first record
abbrev pub so_far : Option Fields → Fields → Fields
so_far None others = others
so_far (Some made) others = made

pub wide-more : (options : ToWide) (rows : List Row) (row : Row)
    → Some (put_each (so_far (wide_record options rows) (dropped (both options) row.0)) (option_to_list (pair_in options row.0))) ≡ wide_record options (rows ++ row ∷ [])
wide-more options [] row = ap (λ pairs. Some (put_each (dropped (both options) row.0) pairs)) (sym (one-pair (pair_in options row.0)))
wide-more options (first ∷ rows) row =
    let others = dropped (both options) first.0 in
    ap Some (sym (put_each-append others (pairs_in options (first ∷ rows)) (option_to_list (pair_in options row.0))))
    ∙ ap (λ pairs. Some (put_each others pairs)) (sym (pairs-more options (first ∷ rows) row))

-- one more key is entered
once-entered : (names : List (List ℕ)) (name : List ℕ) → entered (each_once bytes_eq names) name ≡ each_once bytes_eq (names ++ name ∷ [])
once-entered names name =
    let before = each_once bytes_eq names in
    elim (cases_Bool (is_among before name)) as (λ _. entered before name ≡ each_once bytes_eq (names ++ name ∷ [])) [
      | inl known ↦ ap (λ t. cond t before (before ++ name ∷ [])) known ∙ sym (each_once-known bytes_eq bytes_eq-Decides names name known)
      | inr new ↦ ap (λ t. cond t before (before ++ name ∷ [])) new ∙ sym (each_once-new bytes_eq bytes_eq-Decides names name new)
    ]

module _ (options : ToWide) (rows : List Row) (row : Row) where
  keys-told : (found : Option (List ℕ × Tree)) → pair_in options row.0 ≡ found → keys_in options (rows ++ row ∷ []) ≡ each_once bytes_eq (keys_of (pairs_in options rows ++ option_to_list found))
  keys-told found is =
      ap (λ pairs. each_once bytes_eq (keys_of pairs)) (pairs-more options rows row ∙ ap (λ found. pairs_in options rows ++ option_to_list found) is)

  pub keys-none : pair_in options row.0 ≡ None → keys_in options rows ≡ keys_in options (rows ++ row ∷ [])
  keys-none none = sym (keys-told None none ∙ ap (λ pairs. each_once bytes_eq (keys_of pairs)) (append-nil (pairs_in options rows)))

  pub keys-one : (pair : List ℕ × Tree) → pair_in options row.0 ≡ Some pair → entered (keys_in options rows) pair.0 ≡ keys_in options (rows ++ row ∷ [])
  keys-one pair found =
      once-entered (keys_of (pairs_in options rows)) pair.0
      ∙ ap (each_once bytes_eq) (sym (map-append (λ (pair : List ℕ × Tree). pair.0) (pairs_in options rows) (pair ∷ [])))
      ∙ sym (keys-told (Some pair) found)

module _ (options : ToWide) (fields : Fields) where
  pub pair-keyless : None ≡ value_at options.key fields → pair_in options fields ≡ None
  pair-keyless none = ap (λ key. paired (option_map shown key) (value_at options.value fields)) (sym none)

  pub pair-valueless : is_some (value_at options.value fields) ≡ false → pair_in options fields ≡ None
  pair-valueless none = lacks (option_map shown (value_at options.key fields)) (value_at options.value fields) none
    where
      lacks : (key : Option (List ℕ)) (value : Option Tree) → is_some value ≡ false → paired key value ≡ None
      lacks None value none = refl
      lacks (Some key) None none = refl
      lacks (Some key) (Some value) none = absurd (true≢false none)

  pub pair-there : (key : Tree) → Some key ≡ value_at options.key fields → is_some (value_at options.value fields) ≡ true → (value : Tree) × (pair_in options fields ≡ Some (shown key, value))
  pair-there key found there =
      let has = valued (value_at options.value fields) there in
      (has.0, ap (λ key. paired (option_map shown key) (value_at options.value fields)) (sym found) ∙ has.1)
    where
      valued : (value : Option Tree) → is_some value ≡ true → (tree : Tree) × (paired (Some (shown key)) value ≡ Some (shown key, tree))
      valued None there = absurd (true≢false (sym there))
      valued (Some tree) there = (tree, refl)

pub some-mapped : {A B : Type 0} (f : A → B) (found : Option A) → is_some (option_map f found) ≡ is_some found
some-mapped f None = refl
some-mapped f (Some x) = refl

-- the records in events of records
rows-back : (rows : List Row) → rows_in (events_of rows) ≡ rows
rows-back [] = refl
rows-back (row ∷ rows) = ap (λ rows. row ∷ rows) (rows-back rows)

-- the records that the groups gave, filled
pub filled-given : (keys : List (List ℕ)) (out first made : List Event) (late : List Row) → first ≡ [] → made ≡ first ++ events_of late
    → out ++ events_of (filled_rows keys (rows_in made)) ≡ out ++ events_of (filled_rows keys late)
filled-given keys out first made late none is =
    ap (λ events. out ++ events_of (filled_rows keys (rows_in events))) (is ∙ ap (λ first. first ++ events_of late) none)
    ∙ ap (λ rows. out ++ events_of (filled_rows keys rows)) (rows-back late)
