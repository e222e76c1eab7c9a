-- A state for each group, which depends on the items of the group: one more item changes the state at one place, or adds
-- one at the end. The items are records, or contain them.
use Rattle.std.proofs.Common.{◌≡◌, ℕ, zero, suc, ◌<◌, ◌≤◌, Bool, true, false, cond, List, [], ◌∷◌, ◌++◌, map, set, length, Option, Some, None, slice_get, refl, ap, ap₂, sym, ◌∙◌, inl, inr, arith}
use Rattle.std.specs.List.{cons_option, list_any, filter, filter_map}
use Rattle.std.proofs.lemmas.Bool.{cases_Bool, or_parts}
use Rattle.std.proofs.lemmas.List.{append-nil, map-append}
use Rattle.std.proofs.lemmas.List.Elements.{filter-append}
use Rattle.std.proofs.lemmas.Option.{slice_get_within}
use Rattle.mlr_spec.proofs.Splitting.{cases_Option}
use Rattle.mlr_groups.specs.Grouping.{texts_eq}
use Rattle.mlr_groups.proofs.KeyTexts.{texts_eq-Decides}
use Rattle.mlr_groups.proofs.Once.{any-at, any-once, each_once-apart, eq-swap, map-one, map-same}
use Rattle.mlr_groups.proofs.Grouping.{groups_of, groups-none, groups-known, groups-new}

slice_get-prefix : {A : Type 0} (xs ys : List A) (p : ℕ) → p < length xs → slice_get (xs ++ ys) p ≡ slice_get xs p
slice_get-prefix [] ys p below = absurd (omega arith)
slice_get-prefix (x ∷ xs) ys zero below = refl
slice_get-prefix (x ∷ xs) ys (suc p) below = slice_get-prefix xs ys p (omega arith)

module _ {X : Type 0} (common : X → Option (List (List ℕ))) where
  -- whether an item is in the group of these texts
  abbrev pub in_group : List (List ℕ) → X → Bool
  in_group texts item = elim (common item) [ Some own ↦ texts_eq texts own | None ↦ false ]

  -- the items of a group
  abbrev pub items_in : List (List ℕ) → List X → List X
  items_in texts items = filter (in_group texts) items

  -- the states of all groups
  abbrev pub states_in : {A : Type 0} → (List X → A) → List X → List A
  states_in state items = map (λ texts. state (items_in texts items)) (groups_of common items)

  -- whether an item is in a group, by the item's own texts
  in-own : (texts own : List (List ℕ)) (item : X) → common item ≡ Some own → in_group texts item ≡ texts_eq texts own
  in-own texts own item is = ap (λ group. elim group [ Some own ↦ texts_eq texts own | None ↦ false ]) is

  in-none : (texts : List (List ℕ)) (item : X) → common item ≡ None → in_group texts item ≡ false
  in-none texts item none = ap (λ group. elim group [ Some own ↦ texts_eq texts own | None ↦ false ]) none

  -- a group that no item is in has no items
  pub members-none : (texts : List (List ℕ)) (items : List X) → list_any (texts_eq texts) (filter_map common items) ≡ false → items_in texts items ≡ []
  members-none texts [] none = refl
  members-none texts (item ∷ items) none =
      elim (cases_Option (common item)) as (λ _. items_in texts (item ∷ items) ≡ []) [
        | inl runs_out ↦
            ap (λ t. cond t (item ∷ items_in texts items) (items_in texts items)) (in-none texts item runs_out)
            ∙ members-none texts items (sym (ap (λ group. list_any (texts_eq texts) (cons_option group (filter_map common items))) runs_out) ∙ none)
        | inr has ↦
            let parts = or_parts (texts_eq texts has.0) (list_any (texts_eq texts) (filter_map common items)) (sym (ap (λ group. list_any (texts_eq texts) (cons_option group (filter_map common items))) has.1) ∙ none) in
            ap (λ t. cond t (item ∷ items_in texts items) (items_in texts items)) (in-own texts has.0 item has.1 ∙ parts.0)
            ∙ members-none texts items parts.1
      ]

  module _ (before : List X) (item : X) where
    -- the items of a group after one more item, which isn't in the group, or is
    members-apart : (texts : List (List ℕ)) → in_group texts item ≡ false → items_in texts (before ++ item ∷ []) ≡ items_in texts before
    members-apart texts apart =
        filter-append (in_group texts) before (item ∷ [])
        ∙ ap (λ t. items_in texts before ++ cond t (item ∷ []) []) apart ∙ append-nil (items_in texts before)

    members-more : (texts : List (List ℕ)) → in_group texts item ≡ true → items_in texts (before ++ item ∷ []) ≡ items_in texts before ++ item ∷ []
    members-more texts is =
        filter-append (in_group texts) before (item ∷ []) ∙ ap (λ t. items_in texts before ++ cond t (item ∷ []) []) is

    -- An item in no group leaves all states as they are.
    pub states-none : {A : Type 0} (state : List X → A) → common item ≡ None → states_in state (before ++ item ∷ []) ≡ states_in state before
    states-none state none =
        let same = λ (texts : List (List ℕ)). members-apart texts (in-none texts item none) in
        λ i. map (λ texts. state (same texts i)) (groups-none common before item none i)

    module _ (texts : List (List ℕ)) (is : common item ≡ Some texts) where
      members-own : items_in texts (before ++ item ∷ []) ≡ items_in texts before ++ item ∷ []
      members-own = members-more texts (in-own texts texts item is ∙ (texts_eq-Decides texts texts).1 refl)

      members-other : (other : List (List ℕ)) → texts_eq texts other ≡ false → items_in other (before ++ item ∷ []) ≡ items_in other before
      members-other other apart = members-apart other (in-own other texts item is ∙ eq-swap texts_eq texts_eq-Decides other texts ∙ apart)

      module _ {A : Type 0} (state : List X → A) where
        -- An item of a known group changes the state at the group's place.
        pub states-known : (p : ℕ) → slice_get (groups_of common before) p ≡ Some texts → states_in state (before ++ item ∷ []) ≡ set (states_in state before) p (state (items_in texts before ++ item ∷ []))
        states-known p at =
            let old = λ (other : List (List ℕ)). state (items_in other before) in
            let new = λ (other : List (List ℕ)). state (items_in other (before ++ item ∷ [])) in
            let groups = groups_of common before in
            ap (map new) (groups-known common before item texts is (any-at texts_eq texts_eq-Decides groups p texts at))
            ∙ map-one texts_eq texts_eq-Decides old new groups p texts (each_once-apart texts_eq texts_eq-Decides (filter_map common before)) at
            (λ other apart. ap state (members-other other apart))
            ∙ ap (λ own. set (map old groups) p (state own)) members-own

        -- An item of a new group adds a state at the end.
        pub states-new : list_any (texts_eq texts) (groups_of common before) ≡ false → states_in state (before ++ item ∷ []) ≡ states_in state before ++ state (item ∷ []) ∷ []
        states-new free =
            let old = λ (other : List (List ℕ)). state (items_in other before) in
            let new = λ (other : List (List ℕ)). state (items_in other (before ++ item ∷ [])) in
            let groups = groups_of common before in
            let none = sym (any-once texts_eq texts_eq-Decides texts (filter_map common before)) ∙ free in
            ap (map new) (groups-new common before item texts is free)
            ∙ map-append new groups (texts ∷ [])
            ∙ ap₂ (λ states own. states ++ state own ∷ []) (map-same texts_eq texts_eq-Decides old new texts groups free (λ other apart. ap state (members-other other apart)))
            (members-own ∙ ap (λ own. own ++ item ∷ []) (members-none texts before none))

      -- a group is new if its place is not below the number of groups
      module _ (p : ℕ) (at : slice_get (groups_of common (before ++ item ∷ [])) p ≡ Some texts) where
        -- A place below the number of groups is that of a known group.
        pub place-known : p < length (groups_of common before) → slice_get (groups_of common before) p ≡ Some texts
        place-known below =
            elim (cases_Bool (list_any (texts_eq texts) (groups_of common before))) as (λ _. slice_get (groups_of common before) p ≡ Some texts) [
              | inl known ↦ ap (λ groups. slice_get groups p) (sym (groups-known common before item texts is known)) ∙ at
              | inr new ↦
                  sym (slice_get-prefix (groups_of common before) (texts ∷ []) p below)
                  ∙ ap (λ groups. slice_get groups p) (sym (groups-new common before item texts is new)) ∙ at
            ]

        -- Any other place is that of a new group.
        pub place-new : length (groups_of common before) ≤ p → list_any (texts_eq texts) (groups_of common before) ≡ false
        place-new following =
            elim (cases_Bool (list_any (texts_eq texts) (groups_of common before))) as (λ _. list_any (texts_eq texts) (groups_of common before) ≡ false) [
              | inl known ↦
                  let within = slice_get_within (groups_of common before) p texts (ap (λ groups. slice_get groups p) (sym (groups-known common before item texts is known)) ∙ at) in
                  absurd (omega (arith, following, within))
              | inr new ↦ new
            ]
