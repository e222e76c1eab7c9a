-- Sets of names with the orders of their first records.
use Rattle.std.proofs.Common.{◌≡◌, ℕ, zero, suc, ◌<◌, ◌≤◌, Bool, true, false, not, List, [], ◌∷◌, ◌++◌, map, length, length-append, get_or, cond, Option, Some, None, slice_get, refl, ap, sym, inl, inr, ◌∙◌, arith}
use Rattle.std.specs.List.{find, list_any}
use Rattle.std.specs.Option.{option_map, option_or}
use Rattle.std.specs.Str.{bytes_eq}
use Rattle.std.proofs.lemmas.Bool.{and_parts, cases_Bool, not-true, or_left, or_parts, or_right, true≢false}
use Rattle.std.proofs.lemmas.List.{get_or_append_left, length-map, map-append}
use Rattle.std.proofs.lemmas.List.Folds.{find-append}
use Rattle.std.proofs.lemmas.Option.{get_or_from_slice_get, slice_get-get_or, slice_get-map, slice_get_past, slice_get_within}
use Rattle.std.proofs.lemmas.Slice.Eq.{bytes_eq-Decides}
use Rattle.mlr_spec.specs.Pairs.{are_distinct, keys_of}
use Rattle.mlr_spec.proofs.Splitting.{cases_Option}
use Rattle.mlr_event.specs.Reading.{is_among}
use Rattle.mlr_groups.specs.Keys.{entered, key_of}
use Rattle.mlr_groups.proofs.KeyTexts.{key-eq}
use Rattle.verbs_base.specs.Choosing.{picked}
use Rattle.verbs_fields.specs.Sorting.{by_name}
use Rattle.verbs_state.specs.Regularize.{KeepsFirsts, has_keys_of, regular, sorted_names}
use Rattle.verbs_base.specs.Records.{Fields}
use Rattle.verbs_state.proofs.Names.{distinct-push, sorted_names-keys}

-- the key of a record's set of names
abbrev pub set_key : Fields → List ℕ
set_key fields = key_of (keys_of (by_name fields))

same-key : (fields other : Fields) → has_keys_of fields other ≡ bytes_eq (set_key fields) (set_key other)
same-key fields other = sym (key-eq (keys_of (by_name fields)) (keys_of (by_name other)))

key-same : (fields other : Fields) → has_keys_of fields other ≡ true → set_key fields ≡ set_key other
key-same fields other is = (bytes_eq-Decides (set_key fields) (set_key other)).0 (sym (same-key fields other) ∙ is)

same-from : (fields other : Fields) → set_key fields ≡ set_key other → has_keys_of fields other ≡ true
same-from fields other is = same-key fields other ∙ (bytes_eq-Decides (set_key fields) (set_key other)).1 is

-- the record that is found depends only on the key
find-key : (fields other : Fields) (records : List Fields) → set_key fields ≡ set_key other → find (has_keys_of fields) records ≡ find (has_keys_of other) records
find-key fields other [] is = refl
find-key fields other (r ∷ records) is =
    let same : has_keys_of fields r ≡ has_keys_of other r = same-key fields r ∙ ap (λ key. bytes_eq key (set_key r)) is ∙ sym (same-key other r) in
    rw same (rw (find-key fields other records is) refl)

among-at : (texts : List (List ℕ)) (place : ℕ) (text : List ℕ) → slice_get texts place ≡ Some text → is_among texts text ≡ true
among-at [] place text at = absurd (let e : None ≡ Some text = at in cc)
among-at (t ∷ texts) zero text at = or_left _ _ ((bytes_eq-Decides text t).1 (let e : Some t ≡ Some text = at in cc))
among-at (t ∷ texts) (suc place) text at = or_right _ _ (among-at texts place text at)

-- the only record with a key is the one that is found
found-at : (firsts : List Fields) (place : ℕ) (first fields : Fields) → are_distinct (map set_key firsts) ≡ true → slice_get firsts place ≡ Some first → set_key fields ≡ set_key first → find (has_keys_of fields) firsts ≡ Some first
found-at [] place first fields distinct at is = absurd (let e : None ≡ Some first = at in cc)
found-at (r ∷ firsts) zero first fields distinct at is =
    let here : r ≡ first = let e : Some r ≡ Some first = at in cc in
    rw (same-from fields r (is ∙ ap set_key (sym here))) at
found-at (r ∷ firsts) (suc place) first fields distinct at is =
    let parts = and_parts (not (list_any (bytes_eq (set_key r)) (map set_key firsts))) (are_distinct (map set_key firsts)) distinct in
    let later = found-at firsts place first fields parts.1 at is in
    elim (cases_Bool (has_keys_of fields r)) as (λ _. find (has_keys_of fields) (r ∷ firsts) ≡ Some first) [
      | inl same ↦
          let there : is_among (map set_key firsts) (set_key r) ≡ true =
          among-at (map set_key firsts) place (set_key r)
          (slice_get-map set_key firsts place ∙ ap (option_map set_key) at ∙ ap Some (sym is ∙ key-same fields r same)) in
          absurd (true≢false (sym there ∙ not-true _ parts.0))
      | inr other ↦ rw other later
    ]

none-among : (firsts : List Fields) (fields : Fields) → is_among (map set_key firsts) (set_key fields) ≡ false → find (has_keys_of fields) firsts ≡ None
none-among [] fields new = refl
none-among (r ∷ firsts) fields new =
    let parts = or_parts (bytes_eq (set_key fields) (set_key r)) (is_among (map set_key firsts) (set_key fields)) new in
    rw (same-key fields r ∙ parts.0) (none-among firsts fields parts.1)

length-mapped : {A B : Type 0} (f : A → B) (xs : List A) → length (map f xs) ≡ length xs
length-mapped f xs = simp length-map

entered-last : (sets : List (List ℕ)) (key : List ℕ) (place : ℕ) → length sets ≤ place → slice_get (entered sets key) place ≡ Some key → (is_among sets key ≡ false) × (entered sets key ≡ sets ++ key ∷ []) × (place ≡ length sets)
entered-last sets key place late at = by_known (is_among sets key) at
  where
    by_known : (known : Bool) → slice_get (cond known sets (sets ++ key ∷ [])) place ≡ Some key → (known ≡ false) × (cond known sets (sets ++ key ∷ []) ≡ sets ++ key ∷ []) × (place ≡ length sets)
    by_known true at = absurd (let e : None ≡ Some key = sym (slice_get_past sets place late) ∙ at in cc)
    by_known false at =
        let within = slice_get_within (sets ++ key ∷ []) place key at in
        (refl, refl, omega (arith, late, within, length-append sets (key ∷ [])))

entered-before : (sets : List (List ℕ)) (key : List ℕ) (place : ℕ) → place < length sets → slice_get (entered sets key) place ≡ Some key → (entered sets key ≡ sets) × (slice_get sets place ≡ Some key)
entered-before sets key place early at = elim (cases_Bool (is_among sets key)) as (λ _. (entered sets key ≡ sets) × (slice_get sets place ≡ Some key)) [
  | inl known ↦
      let is = ap (λ t. cond t sets (sets ++ key ∷ [])) known in
      (is, ap (λ x. slice_get x place) (sym is) ∙ at)
  | inr new ↦
      let pushed : slice_get (sets ++ key ∷ []) place ≡ Some key = ap (λ t. slice_get (cond t sets (sets ++ key ∷ [])) place) (sym new) ∙ at in
      let own : slice_get sets place ≡ Some key =
      slice_get-get_or sets place key early ∙ ap Some (sym (get_or_append_left sets (key ∷ []) key place early) ∙ get_or_from_slice_get (sets ++ key ∷ []) place key key pushed) in
      absurd (true≢false (sym (among-at sets place key own) ∙ new))
]

-- a record in the order of the record that was found, if any
abbrev ordered : Option Fields → Fields → Fields
ordered found fields = elim found [ Some first ↦ picked (keys_of first) fields | None ↦ fields ]

option_or-none : {A : Type 0} (found : Option A) → option_or found None ≡ found
option_or-none None = refl
option_or-none (Some x) = refl

module _ (sets : List (List ℕ)) (orders : List (List (List ℕ))) (before : List Fields) (fields : Fields) (keeps : KeepsFirsts sets orders before) where
  -- the first record of the set at a place
  first-at : (place : ℕ) → slice_get sets place ≡ Some (set_key fields) → (first : Fields) × (slice_get keeps.0 place ≡ Some first) × (set_key fields ≡ set_key first)
  first-at place at =
      let keys : option_map set_key (slice_get keeps.0 place) ≡ Some (set_key fields) = sym (slice_get-map set_key keeps.0 place) ∙ ap (λ x. slice_get x place) (sym keeps.2) ∙ at in
      elim (cases_Option (slice_get keeps.0 place)) as (λ _. (first : Fields) × (slice_get keeps.0 place ≡ Some first) × (set_key fields ≡ set_key first)) [
        | inl none ↦ absurd (let e : None ≡ Some (set_key fields) = sym (ap (option_map set_key) none) ∙ keys in cc)
        | inr found ↦ (found.0, found.1, (let e : Some (set_key found.0) ≡ Some (set_key fields) = sym (ap (option_map set_key) found.1) ∙ keys in cc))
      ]

  distinct-firsts : are_distinct (map set_key keeps.0) ≡ true
  distinct-firsts = ap are_distinct (sym keeps.2) ∙ keeps.1

  -- a known set has the order of its first record
  pub known-regular : (place : ℕ) → slice_get sets place ≡ Some (set_key fields) → (order : List (List ℕ)) → regular before fields ≡ picked (get_or orders place order) fields
  known-regular place at order =
      let first = first-at place at in
      let found = keeps.4 fields ∙ found-at keeps.0 place first.0 fields distinct-firsts first.1 first.2 in
      let own : get_or orders place order ≡ keys_of first.0 =
      get_or_from_slice_get orders place (keys_of first.0) order
      (ap (λ x. slice_get x place) keeps.3 ∙ slice_get-map keys_of keeps.0 place ∙ ap (option_map keys_of) first.1) in
      ap (λ f. ordered f fields) found ∙ ap (λ names. picked names fields) (sym own)

  pub known-keeps : (place : ℕ) → slice_get sets place ≡ Some (set_key fields) → KeepsFirsts sets orders (before ++ fields ∷ [])
  known-keeps place at = (
    keeps.0,
    keeps.1,
    keeps.2,
    keeps.3,
    λ other.
        let first = first-at place at in
        find-append (has_keys_of other) before (fields ∷ [])
        ∙ ap (λ found. option_or found (find (has_keys_of other) (fields ∷ []))) (keeps.4 other)
        ∙ elim (cases_Bool (has_keys_of other fields)) as (λ _. option_or (find (has_keys_of other) keeps.0) (find (has_keys_of other) (fields ∷ [])) ≡ find (has_keys_of other) keeps.0) [
          | inl same ↦
              let there = found-at keeps.0 place first.0 other distinct-firsts first.1 (key-same other fields same ∙ first.2) in
              ap (λ found. option_or found (find (has_keys_of other) (fields ∷ []))) there ∙ sym there
          | inr apart ↦ rw apart (option_or-none (find (has_keys_of other) keeps.0))
        ],
  )

  module _ (new : is_among sets (set_key fields) ≡ false) where
    -- a new set has the order of this record, which is unchanged
    pub new-regular : regular before fields ≡ fields
    new-regular = ap (λ f. ordered f fields) (keeps.4 fields ∙ none-among keeps.0 fields (ap (λ x. is_among x (set_key fields)) (sym keeps.2) ∙ new))

    pub new-keeps : KeepsFirsts (sets ++ set_key fields ∷ []) (orders ++ keys_of fields ∷ []) (before ++ fields ∷ [])
    new-keeps = (
      keeps.0 ++ fields ∷ [],
      distinct-push sets (set_key fields) keeps.1 new,
      ap (λ x. x ++ set_key fields ∷ []) keeps.2 ∙ sym (map-append set_key keeps.0 (fields ∷ [])),
      ap (λ x. x ++ keys_of fields ∷ []) keeps.3 ∙ sym (map-append keys_of keeps.0 (fields ∷ [])),
      λ other.
          find-append (has_keys_of other) before (fields ∷ [])
          ∙ ap (λ found. option_or found (find (has_keys_of other) (fields ∷ []))) (keeps.4 other)
          ∙ sym (find-append (has_keys_of other) keeps.0 (fields ∷ [])),
    )

  -- an order that equals the record's order is that of its set
  pub set-at : (place : ℕ) → slice_get orders place ≡ Some (keys_of fields) → slice_get sets place ≡ Some (set_key fields)
  set-at place at =
      let names : option_map keys_of (slice_get keeps.0 place) ≡ Some (keys_of fields) = sym (slice_get-map keys_of keeps.0 place) ∙ ap (λ x. slice_get x place) (sym keeps.3) ∙ at in
      ap (λ x. slice_get x place) keeps.2 ∙ slice_get-map set_key keeps.0 place ∙ by_first (slice_get keeps.0 place) names
    where
      by_first : (found : Option Fields) → option_map keys_of found ≡ Some (keys_of fields) → option_map set_key found ≡ Some (set_key fields)
      by_first None is = absurd (let e : None ≡ Some (keys_of fields) = is in cc)
      by_first (Some first) is =
          let same : keys_of first ≡ keys_of fields = let e : Some (keys_of first) ≡ Some (keys_of fields) = is in cc in
          ap (λ names. Some (key_of names)) (sym (sorted_names-keys first) ∙ ap sorted_names same ∙ sorted_names-keys fields)

  count : length sets ≡ length orders
  count = ap length keeps.2 ∙ length-mapped set_key keeps.0 ∙ sym (ap length keeps.3 ∙ length-mapped keys_of keeps.0)

  module _ (place : ℕ) (key : List ℕ) (after : List (List ℕ)) (is : key ≡ set_key fields) (entered_is : after ≡ entered sets key) (at : slice_get after place ≡ Some key) where
    there : slice_get (entered sets (set_key fields)) place ≡ Some (set_key fields)
    there = ap (λ k. slice_get (entered sets k) place) (sym is) ∙ ap (λ x. slice_get x place) (sym entered_is) ∙ at ∙ ap Some is

    -- a key whose place is after all orders is new
    pub entered-new : length orders ≤ place → (is_among sets (set_key fields) ≡ false) × (after ≡ sets ++ set_key fields ∷ []) × (place ≡ length orders)
    entered-new late =
        let last = entered-last sets (set_key fields) place (omega (arith, count, late)) there in
        (last.0, entered_is ∙ ap (entered sets) is ∙ last.1, omega (arith, count, last.2))

    -- a key at an earlier place is known
    pub entered-known : place < length orders → (after ≡ sets) × (slice_get sets place ≡ Some (set_key fields))
    entered-known early =
        let known = entered-before sets (set_key fields) place (omega (arith, count, early)) there in
        (entered_is ∙ ap (entered sets) is ∙ known.0, known.1)
