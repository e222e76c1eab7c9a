-- `uniq` gives one record of each group.
use Rattle.std.proofs.Common.{◌≡◌, ℕ, ◌+◌, false, not, cond, List, [], ◌∷◌, ◌++◌, length, Option, Some, None, refl, ap, ap₂, sym, subst, ◌∙◌, inl, inr, append_assoc}
use Rattle.std.specs.List.{cons_option, filter, filter_map, list_any}
use Rattle.std.proofs.lemmas.Bool.{cases_Bool, or_parts}
use Rattle.std.proofs.lemmas.List.{append-nil, length-append}
use Rattle.std.proofs.lemmas.List.Elements.{filter_map-append}
use Rattle.mlr_spec.proofs.Splitting.{cases_Option}
use Rattle.mlr_groups.specs.declared.group_by.GroupBy.{GroupBy}
use Rattle.mlr_groups.specs.Grouping.{common_in, each_once, groups_in, texts_eq}
use Rattle.mlr_groups.proofs.KeyTexts.{texts_eq-Decides}
use Rattle.mlr_groups.proofs.Grouping.{groups-known, groups-new, groups-none}
use Rattle.mlr_groups.proofs.Once.{AreApart, each_once-apart}
use Rattle.verbs_base.specs.Records.{Fields, given_after, given_by}
use Rattle.verbs_count.specs.Uniq.{uniq_first, uniq_gives}

filter-none : (x : List (List ℕ)) (xs : List (List (List ℕ))) → list_any (texts_eq x) xs ≡ false → filter (λ other. not (texts_eq x other)) xs ≡ xs
filter-none x [] none = refl
filter-none x (y ∷ xs) none =
    let parts = or_parts (texts_eq x y) (list_any (texts_eq x) xs) none in
    ap (λ t. cond (not t) (y ∷ filter (λ other. not (texts_eq x other)) xs) (filter (λ other. not (texts_eq x other)) xs)) parts.0
    ∙ ap (λ zs. y ∷ zs) (filter-none x xs parts.1)

-- elements of which no two are equal stay as they are
apart-once : (xs : List (List (List ℕ))) → AreApart texts_eq texts_eq-Decides xs → each_once texts_eq xs ≡ xs
apart-once [] apart = refl
apart-once (x ∷ xs) apart =
    ap (λ ys. x ∷ filter (λ other. not (texts_eq x other)) ys) (apart-once xs apart.1) ∙ ap (λ ys. x ∷ ys) (filter-none x xs apart.0)

module _ (by : GroupBy) where
  -- What was given for a record after others: the record if its group is new. It adds its group to the groups.
  record IsStep (before : List Fields) (fields : Fields) (given : List Fields) : Type 0 where
    pub groups : groups_in by (before ++ fields ∷ []) ≡ groups_in by before ++ filter_map (common_in by) given
    pub each : length given ≡ length (filter_map (common_in by) given)

  none-step : (before : List Fields) (fields : Fields) → groups_in by (before ++ fields ∷ []) ≡ groups_in by before → IsStep before fields []
  none-step before fields same = record { groups = same ∙ sym (append-nil (groups_in by before)); each = refl }

  new-step : (before : List Fields) (fields : Fields) (texts : List (List ℕ)) → common_in by fields ≡ Some texts → groups_in by (before ++ fields ∷ []) ≡ groups_in by before ++ texts ∷ [] → IsStep before fields (fields ∷ [])
  new-step before fields texts is more =
      let one : filter_map (common_in by) (fields ∷ []) ≡ texts ∷ [] = ap (λ group. cons_option group []) is in
      record { groups = more ∙ ap (λ added. groups_in by before ++ added) (sym one); each = sym (ap length one) }

  -- what is given, by the record's group
  abbrev chosen : List Fields → Fields → Option (List (List ℕ)) → List Fields
  chosen before fields group = elim group [ Some texts ↦ cond (list_any (texts_eq texts) (groups_in by before)) [] (fields ∷ []) | None ↦ [] ]

  step : (before : List Fields) (fields : Fields) → IsStep before fields (uniq_gives by before fields)
  step before fields =
      elim (cases_Option (common_in by fields)) as (λ _. IsStep before fields (uniq_gives by before fields)) [
        | inl none ↦ subst (IsStep before fields) (sym (ap (chosen before fields) none)) (none-step before fields (groups-none (common_in by) before fields none))
        | inr own ↦
            elim (cases_Bool (list_any (texts_eq own.0) (groups_in by before))) as (λ _. IsStep before fields (uniq_gives by before fields)) [
              | inl known ↦
                  subst (IsStep before fields) (sym (ap (chosen before fields) own.1 ∙ ap (λ t. cond t [] (fields ∷ [])) known))
                  (none-step before fields (groups-known (common_in by) before fields own.0 own.1 known))
              | inr new ↦
                  subst (IsStep before fields) (sym (ap (chosen before fields) own.1 ∙ ap (λ t. cond t [] (fields ∷ [])) new))
                  (new-step before fields own.0 own.1 (groups-new (common_in by) before fields own.0 own.1 new))
            ]
      ]

  kept-groups : (before given : List Fields) → groups_in by (before ++ given) ≡ groups_in by before ++ filter_map (common_in by) (given_after (uniq_first by) before given)
  kept-groups before [] = ap (groups_in by) (append-nil before) ∙ sym (append-nil (groups_in by before))
  kept-groups before (fields ∷ given) =
      let now = uniq_gives by before fields in
      let rest = given_after (uniq_first by) (before ++ fields ∷ []) given in
      ap (groups_in by) (sym (append_assoc before (fields ∷ []) given))
      ∙ kept-groups (before ++ fields ∷ []) given
      ∙ ap (λ groups. groups ++ filter_map (common_in by) rest) (step before fields).groups
      ∙ append_assoc (groups_in by before) (filter_map (common_in by) now) (filter_map (common_in by) rest)
      ∙ ap (λ texts. groups_in by before ++ texts) (sym (filter_map-append (common_in by) now rest))

  kept-each : (before given : List Fields) → length (given_after (uniq_first by) before given) ≡ length (filter_map (common_in by) (given_after (uniq_first by) before given))
  kept-each before [] = refl
  kept-each before (fields ∷ given) =
      let now = uniq_gives by before fields in
      let rest = given_after (uniq_first by) (before ++ fields ∷ []) given in
      length-append now rest ∙ ap₂ (λ n m. n + m) (step before fields).each (kept-each (before ++ fields ∷ []) given)
      ∙ sym (length-append (filter_map (common_in by) now) (filter_map (common_in by) rest))
      ∙ sym (ap length (filter_map-append (common_in by) now rest))

  pub each-group : (given : List Fields) → groups_in by (given_by (uniq_first by) given) ≡ groups_in by given
  each-group given =
      ap (each_once texts_eq) (sym (kept-groups [] given)) ∙ apart-once (groups_in by given) (each_once-apart texts_eq texts_eq-Decides (filter_map (common_in by) given))

  pub one-each : (given : List Fields) → length (given_by (uniq_first by) given) ≡ length (groups_in by given)
  one-each given = kept-each [] given ∙ ap length (sym (kept-groups [] given))
