-- Whether a record is the first of its group, by its place among the groups.
use Rattle.std.proofs.Common.{◌≡◌, ℕ, ◌<◌, ◌≤◌, cond, List, [], ◌∷◌, ◌++◌, length, Some, None, ap, ◌∙◌}
use Rattle.std.specs.List.{list_any}
use Rattle.mlr_groups.specs.declared.group_by.GroupBy.{GroupBy}
use Rattle.mlr_groups.specs.Grouping.{IsGroupPlace, common_in, groups_in, texts_eq}
use Rattle.mlr_groups.proofs.KeyTexts.{texts_eq-Decides}
use Rattle.mlr_groups.proofs.Once.{any-at}
use Rattle.mlr_groups.proofs.PerGroup.{place-known, place-new}
use Rattle.verbs_base.specs.Records.{Fields}
use Rattle.verbs_count.specs.Uniq.{uniq_gives}

module _ (by : GroupBy) (before : List Fields) (fields : Fields) where
  module _ (p : ℕ) (at : IsGroupPlace by (before ++ fields ∷ []) fields (Some p)) where
    own : uniq_gives by before fields ≡ cond (list_any (texts_eq at.0) (groups_in by before)) [] (fields ∷ [])
    own = ap (λ group. elim group [ Some texts ↦ cond (list_any (texts_eq texts) (groups_in by before)) [] (fields ∷ []) | None ↦ [] ]) at.1

    -- a place below the number of groups is that of a known group
    pub gives-known : p < length (groups_in by before) → uniq_gives by before fields ≡ []
    gives-known below =
        own ∙ ap (λ t. cond t [] (fields ∷ [])) (any-at texts_eq texts_eq-Decides (groups_in by before) p at.0 (place-known (common_in by) before fields at.0 at.1 p at.2 below))

    -- any other place is that of a new group
    pub gives-new : length (groups_in by before) ≤ p → uniq_gives by before fields ≡ fields ∷ []
    gives-new following = own ∙ ap (λ t. cond t [] (fields ∷ [])) (place-new (common_in by) before fields at.0 at.1 p at.2 following)
