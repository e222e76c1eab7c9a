-- Counts by group, with one more record.
use Rattle.std.proofs.Common.{◌≡◌, ℕ, ◌+◌, ◌<◌, ◌≤◌, List, [], ◌∷◌, ◌++◌, map, set, length, Some, None, slice_get, get_or, ap, sym, ◌∙◌, arith}
use Rattle.std.specs.Option.{option_map}
use Rattle.std.proofs.lemmas.List.{length-append, length-map}
use Rattle.std.proofs.lemmas.Option.{get_or_from_slice_get, slice_get-map}
use Rattle.std.specs.List.{filter_map}
use Rattle.mlr_groups.specs.declared.group_by.GroupBy.{GroupBy}
use Rattle.mlr_groups.specs.Grouping.{Fields, IsGroupPlace, common_in, texts_eq, members, groups_in}
use Rattle.mlr_groups.specs.Tallying.{capped, count_in, tally}
use Rattle.mlr_groups.proofs.KeyTexts.{texts_eq-Decides}
use Rattle.mlr_groups.proofs.Once.{any-once}
use Rattle.mlr_groups.proofs.PerGroup.{members-none, place-known, place-new, states-known, states-new, states-none}

-- what is kept for a group: the number of its records
abbrev count_of : List Fields → ℕ
count_of records = capped (length records)

module _ (by : GroupBy) (before : List Fields) (fields : Fields) (counts : List ℕ) (are : counts ≡ map (count_in by before) (groups_in by before)) where
  pub counts-none : common_in by fields ≡ None → counts ≡ map (count_in by (before ++ fields ∷ [])) (groups_in by (before ++ fields ∷ []))
  counts-none none = are ∙ sym (states-none (common_in by) before fields count_of none)

  as-many : length counts ≡ length (groups_in by before)
  as-many = ap length are ∙ length-map (groups_in by before) (count_in by before)

  module _ (p : ℕ) (at : IsGroupPlace by (before ++ fields ∷ []) fields (Some p)) where
    module _ (below : p < length counts) where
      there : slice_get (groups_in by before) p ≡ Some at.0
      there = place-known (common_in by) before fields at.0 at.1 p at.2 (omega (arith, below, as-many))

      -- the count at the group's place is the number of its earlier records
      pub count-known : (default : ℕ) → get_or counts p default ≡ count_in by before at.0
      count-known default =
          ap (λ ns. get_or ns p default) are
          ∙ get_or_from_slice_get (map (count_in by before) (groups_in by before)) p (count_in by before at.0) default
          (slice_get-map (count_in by before) (groups_in by before) p ∙ ap (option_map (count_in by before)) there)

      pub counts-known : (count : ℕ) → count ≡ capped (length (members by at.0 before) + 1) → set counts p count ≡ map (count_in by (before ++ fields ∷ [])) (groups_in by (before ++ fields ∷ []))
      counts-known count is =
          ap (λ ns. set ns p count) are
          ∙ ap (set (map (count_in by before) (groups_in by before)) p) (is ∙ ap capped (sym (length-append (members by at.0 before) (fields ∷ []))))
          ∙ sym (states-known (common_in by) before fields at.0 at.1 count_of p there)

    module _ (following : length counts ≤ p) where
      pub counts-new : counts ++ 1 ∷ [] ≡ map (count_in by (before ++ fields ∷ [])) (groups_in by (before ++ fields ∷ []))
      counts-new =
          ap (λ ns. ns ++ 1 ∷ []) are ∙ sym (states-new (common_in by) before fields at.0 at.1 count_of (place-new (common_in by) before fields at.0 at.1 p at.2 (omega (arith, following, as-many))))

      -- no earlier record is in a new group
      pub tally-new : tally by before fields ≡ Some 0
      tally-new =
          let free = place-new (common_in by) before fields at.0 at.1 p at.2 (omega (arith, following, as-many)) in
          let none = sym (any-once texts_eq texts_eq-Decides at.0 (filter_map (common_in by) before)) ∙ free in
          ap (option_map (count_in by before)) at.1 ∙ ap (λ records. Some (count_of records)) (members-none (common_in by) at.0 before none)
