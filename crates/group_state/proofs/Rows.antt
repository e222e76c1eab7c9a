-- How one more row at the end changes the groups of rows.
use Rattle.std.proofs.Common.{◌≡◌, ℕ, ◌<◌, ◌≤◌, List, [], ◌∷◌, ◌++◌, map, set, length, Option, Some, None, slice_get, refl, ap, sym, ◌∙◌, arith}
use Rattle.std.specs.List.{cons_option, filter_map}
use Rattle.std.specs.Option.{option_map}
use Rattle.std.proofs.lemmas.List.{length-append, length-map, map-append}
use Rattle.std.proofs.lemmas.Option.{slice_get-map, slice_get_within}
use Rattle.mlr_groups.specs.declared.group_by.GroupBy.{GroupBy}
use Rattle.mlr_groups.specs.Grouping.{IsGroupPlace, common_in, each_once, groups_in, texts_eq}
use Rattle.mlr_groups.proofs.Grouping.{groups_of, groups-new}
use Rattle.mlr_groups.proofs.PerGroup.{place-known, place-new, states_in, states-known, states-new, states-none}
use Rattle.verbs_base.specs.Records.{Row, records}
use Rattle.group_state.specs.Grouped.{group_in, grouped}

module _ (by : GroupBy) where
  -- what a row has in common with its group
  abbrev common_row : Row → Option (List (List ℕ))
  common_row row = common_in by row.0

  texts-rows : (rows : List Row) → filter_map (common_in by) (records rows) ≡ filter_map common_row rows
  texts-rows [] = refl
  texts-rows (row ∷ rows) = ap (cons_option (common_in by row.0)) (texts-rows rows)

  -- the groups of rows are those of their records
  groups-rows : (rows : List Row) → groups_in by (records rows) ≡ groups_of common_row rows
  groups-rows rows = ap (each_once texts_eq) (texts-rows rows)

  -- each group as a state of its own
  grouped-states : (rows : List Row) → grouped by rows ≡ states_in common_row (λ group. group) rows
  grouped-states rows = ap (map (group_in by rows)) (groups-rows rows)

  module _ (before : List Row) (row : Row) where
    pub records-last : records (before ++ row ∷ []) ≡ records before ++ row.0 ∷ []
    records-last = map-append (λ row. row.0) before (row ∷ [])

    -- A row in no group leaves the groups as they are.
    pub grouped-none : common_in by row.0 ≡ None → grouped by (before ++ row ∷ []) ≡ grouped by before
    grouped-none none =
        grouped-states (before ++ row ∷ []) ∙ states-none common_row before row (λ group. group) none ∙ sym (grouped-states before)

    module _ (p : ℕ) (at : IsGroupPlace by (records before ++ row.0 ∷ []) row.0 (Some p)) where
      there : slice_get (groups_of common_row (before ++ row ∷ [])) p ≡ Some at.0
      there = ap (λ groups. slice_get groups p) (sym (groups-rows (before ++ row ∷ [])) ∙ ap (groups_in by) records-last) ∙ at.2

      as-many : length (grouped by before) ≡ length (groups_of common_row before)
      as-many = length-map (groups_in by (records before)) (group_in by before) ∙ ap length (groups-rows before)

      module _ (below : p < length (grouped by before)) where
        known : slice_get (groups_of common_row before) p ≡ Some at.0
        known = place-known common_row before row at.0 at.1 p there (omega (arith, below, as-many))

        -- A place below the number of groups is that of a known group.
        pub grouped-at : slice_get (grouped by before) p ≡ Some (group_in by before at.0)
        grouped-at =
            ap (λ groups. slice_get groups p) (grouped-states before)
            ∙ slice_get-map (group_in by before) (groups_of common_row before) p ∙ ap (option_map (group_in by before)) known

        -- The row is added to the group at its place.
        pub grouped-known : set (grouped by before) p (group_in by before at.0 ++ row ∷ []) ≡ grouped by (before ++ row ∷ [])
        grouped-known =
            ap (λ groups. set groups p (group_in by before at.0 ++ row ∷ [])) (grouped-states before)
            ∙ sym (states-known common_row before row at.0 at.1 (λ group. group) p known) ∙ sym (grouped-states (before ++ row ∷ []))

      module _ (following : length (grouped by before) ≤ p) where
        -- Any other place is that of a new group, which is the last.
        pub place-last : p ≡ length (grouped by before)
        place-last =
            let free = place-new common_row before row at.0 at.1 p there (omega (arith, following, as-many)) in
            let longer = ap length (groups-new common_row before row at.0 at.1 free) ∙ length-append (groups_of common_row before) (at.0 ∷ []) in
            let within = slice_get_within (groups_of common_row (before ++ row ∷ [])) p at.0 there in
            omega (arith, following, as-many, longer, within)

        -- The row is the first of a new group.
        pub grouped-new : grouped by (before ++ row ∷ []) ≡ grouped by before ++ (row ∷ []) ∷ []
        grouped-new =
            let free = place-new common_row before row at.0 at.1 p there (omega (arith, following, as-many)) in
            grouped-states (before ++ row ∷ []) ∙ states-new common_row before row at.0 at.1 (λ group. group) free
            ∙ ap (λ groups. groups ++ (row ∷ []) ∷ []) (sym (grouped-states before))
