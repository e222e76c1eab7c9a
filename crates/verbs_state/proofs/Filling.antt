-- Fields filled one after another with the last values of earlier records.
use Rattle.std.proofs.Common.{◌≡◌, ℕ, ◌+◌, ◌<◌, ◌≤◌, Bool, true, false, cond, not, ◌&&◌, List, [], ◌∷◌, ◌++◌, map, length, replicate, take, drop, set, get_or, Option, Some, None, refl, ap, ap₂, sym, subst, inl, inr, ◌∙◌, arith}
use Rattle.std.specs.List.{filter_map, fold}
use Rattle.std.specs.Option.{option_map, option_or}
use Rattle.std.specs.Str.{bytes_eq}
use Rattle.std.proofs.lemmas.Bool.{cases_Bool}
use Rattle.std.proofs.lemmas.List.{append-nil, map-append, take_all, take_more, drop_more, take_more_set, drop-set-lt}
use Rattle.std.proofs.lemmas.List.Elements.{filter_map-append}
use Rattle.std.proofs.lemmas.List.Sums.{fold-append}
use Rattle.std.proofs.lemmas.Slice.Eq.{bytes_eq-Decides}
use Rattle.mlr_spec.specs.Tree.{Tree}
use Rattle.mlr_spec.specs.Pairs.{put_at, value_at}
use Rattle.mlr_spec.proofs.Splitting.{cases_Option}
use Rattle.mlr_value.specs.Value.{tree_of}
use Rattle.mlr_value.specs.declared.value.Value.{Value}
use Rattle.verbs_base.specs.Choosing.{is_empty}
use Rattle.verbs_state.specs.declared.fill_down.FillDown.{FillDown}
use Rattle.verbs_state.specs.FillDown.{KeepsLast, filled, is_wanting, last_carried, carried}
use Rattle.verbs_base.specs.Records.{Fields}
use Rattle.verbs_state.specs.Last.{last}
use Rattle.verbs_state.proofs.Lasts.{last-push}

last-found : {A B : Type 0} (h : A → Option B) (xs : List B) (x : A) → last (xs ++ filter_map h (x ∷ [])) ≡ option_or (h x) (last xs)
last-found h xs x = elim (cases_Option (h x)) as (λ _. last (xs ++ filter_map h (x ∷ [])) ≡ option_or (h x) (last xs)) [
  | inl none ↦ rw none (ap last (append-nil xs))
  | inr found ↦ rw found.1 (last-push xs found.0)
]

-- the last value with one more record: the value in that record, or else the last before
pub last_carried-push : (blank : Bool) (name : List ℕ) (before : List Fields) (fields : Fields)
    → last_carried blank name (before ++ fields ∷ []) ≡ option_or (carried blank name fields) (last_carried blank name before)
last_carried-push blank name before fields =
    ap last (filter_map-append (carried blank name) before (fields ∷ [])) ∙ last-found (carried blank name) (filter_map (carried blank name) before) fields

value_at-put : (key : List ℕ) (value : Tree) (pairs : Fields) → value_at key (put_at key value pairs) ≡ Some value
value_at-put key value [] = rw (bytes_eq-Decides key key).1 refl
value_at-put key value (p ∷ pairs) = elim (cases_Bool (bytes_eq p.0 key)) as (λ _. value_at key (put_at key value (p ∷ pairs)) ≡ Some value) [
  | inl here ↦ rw here (rw here refl)
  | inr other ↦ rw other (rw other (value_at-put key value pairs))
]

value_at-put-other : (key other : List ℕ) (value : Tree) (pairs : Fields) → bytes_eq key other ≡ false → value_at other (put_at key value pairs) ≡ value_at other pairs
value_at-put-other key other value [] apart = rw apart refl
value_at-put-other key other value (p ∷ pairs) apart =
    elim (cases_Bool (bytes_eq p.0 key)) as (λ _. value_at other (put_at key value (p ∷ pairs)) ≡ value_at other (p ∷ pairs)) [
      | inl here ↦
          let away : bytes_eq p.0 other ≡ false = subst (λ k. bytes_eq k other ≡ false) (sym ((bytes_eq-Decides p.0 key).0 here)) apart in
          rw here (rw away refl)
      | inr there ↦ rw there (ap (λ left. cond (bytes_eq p.0 other) (Some p.1) left) (value_at-put-other key other value pairs apart))
    ]

-- a kept value that is found again, or that fills an absent one
again : (t : Bool) (value : Tree) → option_or (cond t None (Some value)) (Some value) ≡ Some value
again true value = refl
again false value = refl

-- the definitions for a value that was looked up
abbrev stood : Bool → Option Tree → Option Tree
stood blank found = elim found [ Some value ↦ cond (blank && is_empty value) None (Some value) | None ↦ None ]

abbrev filled_with : Option Tree → Bool → List ℕ → Fields → Fields
filled_with kept wants name fields = elim kept [ Some value ↦ cond wants (put_at name value fields) fields | None ↦ fields ]

-- a field that is to be filled has no value for later records
none-carried : (blank : Bool) (name : List ℕ) (fields : Fields) → is_wanting blank name fields ≡ true → carried blank name fields ≡ None
none-carried blank name fields wants = by_found (value_at name fields) wants
  where
    by_found : (found : Option Tree) → elim found [ Some value ↦ blank && is_empty value | None ↦ not blank ] ≡ true → stood blank found ≡ None
    by_found None wants = refl
    by_found (Some value) wants = rw wants refl

module _ (blank : Bool) (before : List Fields) where
  -- the last value of a field after a record that is partly filled
  abbrev represents_next : Fields → List ℕ → Option Tree
  represents_next fields name = option_or (carried blank name fields) (last_carried blank name before)

  put-here : (name : List ℕ) (value : Tree) (fields : Fields) → last_carried blank name before ≡ Some value → carried blank name fields ≡ None
      → represents_next (put_at name value fields) name ≡ represents_next fields name
  put-here name value fields kept none =
      ap₂ (λ found last. option_or (stood blank found) last) (value_at-put name value fields) kept
      ∙ again (blank && is_empty value) value
      ∙ sym (ap₂ option_or none kept)

  put-represents : (name : List ℕ) (value : Tree) (fields : Fields) (other : List ℕ) → last_carried blank name before ≡ Some value → carried blank name fields ≡ None
      → represents_next (put_at name value fields) other ≡ represents_next fields other
  put-represents name value fields other kept none = elim (cases_Bool (bytes_eq name other)) as (λ _. represents_next (put_at name value fields) other ≡ represents_next fields other) [
    | inl same ↦ subst (λ n. represents_next (put_at name value fields) n ≡ represents_next fields n) ((bytes_eq-Decides name other).0 same) (put-here name value fields kept none)
    | inr apart ↦ ap (λ found. option_or (stood blank found) (last_carried blank other before)) (value_at-put-other name other value fields apart)
  ]

  -- filling a field doesn't change the last values of any field
  pub represents-filled : (name : List ℕ) (fields : Fields) (other : List ℕ)
      → option_or (carried blank other (filled blank before fields name)) (last_carried blank other before) ≡ option_or (carried blank other fields) (last_carried blank other before)
  represents-filled name fields other = elim (cases_Option (last_carried blank name before)) as (λ _. represents_next (filled blank before fields name) other ≡ represents_next fields other) [
    | inl none ↦ ap (λ kept. represents_next (filled_with kept (is_wanting blank name fields) name fields) other) none
    | inr kept ↦
        ap (λ last. represents_next (filled_with last (is_wanting blank name fields) name fields) other) kept.1
        ∙ elim (cases_Bool (is_wanting blank name fields)) as (λ _. represents_next (cond (is_wanting blank name fields) (put_at name kept.0 fields) fields) other ≡ represents_next fields other) [
          | inl wants ↦
              ap (λ t. represents_next (cond t (put_at name kept.0 fields) fields) other) wants
              ∙ put-represents name kept.0 fields other kept.1 (none-carried blank name fields wants)
          | inr full ↦ ap (λ t. represents_next (cond t (put_at name kept.0 fields) fields) other) full
        ]
  ]

-- the state after the first `place` of the names were filled
pub record Filling (options : FillDown) (before : List Fields) (first : Fields) (place : ℕ) (kept : List (Option Value)) (fields : Fields) : Type 0 where
  pub filled : fields ≡ fold (filled options.blank before) first (take place options.names)
  pub done : map (option_map tree_of) (take place kept) ≡ map (λ name. last_carried options.blank name (before ++ first ∷ [])) (take place options.names)
  pub left : map (option_map tree_of) (drop place kept) ≡ map (λ name. last_carried options.blank name before) (drop place options.names)
  pub represents : (name : List ℕ) → option_or (carried options.blank name fields) (last_carried options.blank name before) ≡ last_carried options.blank name (before ++ first ∷ [])

module _ (options : FillDown) (before : List Fields) (first : Fields) where
  pub filling-none : (kept : List (Option Value)) → KeepsLast options kept before → Filling options before first 0 kept first
  filling-none kept keeps = record {
    filled = refl;
    done = refl;
    left = keeps;
    represents = λ name. sym (last_carried-push options.blank name before first);
  }

  module _ (place : ℕ) (name : List ℕ) (kept : List (Option Value)) (fields : Fields) (any : Option Value)
      (named : name ≡ get_or options.names place name) (below : place < length options.names) (room : place < length kept)
      (so_far : Filling options before first place kept fields) where
    split : option_map tree_of (get_or kept place any) ∷ map (option_map tree_of) (drop (place + 1) kept) ≡ last_carried options.blank name before ∷ map (λ n. last_carried options.blank n before) (drop (place + 1) options.names)
    split =
        sym (ap (map (option_map tree_of)) (drop_more kept place any room))
        ∙ so_far.left
        ∙ ap (map (λ n. last_carried options.blank n before)) (drop_more options.names place name below)
        ∙ ap (λ n. last_carried options.blank n before ∷ map (λ n. last_carried options.blank n before) (drop (place + 1) options.names)) (sym named)

    pub filling-old : option_map tree_of (get_or kept place any) ≡ last_carried options.blank name before
    filling-old = let e = split in cc

    names-more : take (place + 1) options.names ≡ take place options.names ++ name ∷ []
    names-more = take_more options.names place name below ∙ ap (λ n. take place options.names ++ n ∷ []) (sym named)

    pub filling-more : (new : Option Value) (after : Fields) → after ≡ filled options.blank before fields name → option_map tree_of new ≡ option_or (carried options.blank name fields) (option_map tree_of (get_or kept place any))
        → Filling options before first (place + 1) (set kept place new) after
    filling-more new after gives keeps =
        let now : option_map tree_of new ≡ last_carried options.blank name (before ++ first ∷ []) =
        keeps ∙ ap (option_or (carried options.blank name fields)) filling-old ∙ so_far.represents name in
        record {
          filled =
              gives
              ∙ ap (λ x. filled options.blank before x name) so_far.filled
              ∙ sym (fold-append (filled options.blank before) first (take place options.names) (name ∷ []))
              ∙ ap (fold (filled options.blank before) first) (sym names-more);
          done =
              ap (map (option_map tree_of)) (take_more_set kept place new room)
              ∙ map-append (option_map tree_of) (take place kept) (new ∷ [])
              ∙ ap₂ (λ xs x. xs ++ x ∷ []) so_far.done now
              ∙ sym (map-append (λ n. last_carried options.blank n (before ++ first ∷ [])) (take place options.names) (name ∷ []))
              ∙ ap (map (λ n. last_carried options.blank n (before ++ first ∷ []))) (sym names-more);
          left = ap (map (option_map tree_of)) (drop-set-lt (place + 1) kept place new (omega arith)) ∙ (let e = split in cc);
          represents = λ other. rw gives (represents-filled options.blank before name fields other) ∙ so_far.represents other;
        }

  pub filling-done : (place : ℕ) (kept : List (Option Value)) (fields : Fields) → length options.names ≤ place → length kept ≡ length options.names → Filling options before first place kept fields
      → (fields ≡ fold (filled options.blank before) first options.names) × KeepsLast options kept (before ++ first ∷ [])
  filling-done place kept fields ended places so_far =
      let names = take_all place options.names ended in
      let all = take_all place kept (omega arith) in (
        so_far.filled ∙ ap (fold (filled options.blank before) first) names,
        ap (map (option_map tree_of)) (sym all) ∙ so_far.done ∙ ap (map (λ name. last_carried options.blank name (before ++ first ∷ []))) names,
      )

-- before the first record no value is kept
pub keeps-none : (options : FillDown) (names : List (List ℕ)) → map (option_map tree_of) (replicate (length names) None) ≡ map (λ name. last_carried options.blank name []) names
keeps-none options [] = refl
keeps-none options (name ∷ names) = ap (λ kept. None ∷ kept) (keeps-none options names)
