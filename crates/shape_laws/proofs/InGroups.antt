-- Records that stand group by group.
use Rattle.std.proofs.Common.{◌≡◌, ℕ, Bool, true, false, not, cond, List, [], ◌∷◌, ◌++◌, map, Some, None, refl, ap, ap₂, ◌∙◌, inl, inr}
use Rattle.std.specs.List.{AllByRecursion, cons_option, filter, filter_map, flat_map, list_any}
use Rattle.std.proofs.lemmas.Bool.{cases_Bool, or_parts}
use Rattle.std.proofs.lemmas.List.{append-nil}
use Rattle.std.proofs.lemmas.List.Elements.{filter-append}
use Rattle.mlr_groups.specs.declared.group_by.GroupBy.{GroupBy}
use Rattle.mlr_groups.specs.Grouping.{common_in, each_once, groups_in, is_in, members, texts_eq}
use Rattle.mlr_groups.proofs.KeyTexts.{texts_eq-Decides}
use Rattle.mlr_groups.proofs.Once.{AreApart, eq-swap, map-same}
use Rattle.verbs_base.specs.Records.{Fields}

abbrev Texts : Type 0
Texts = List (List ℕ)

abbrev without : Texts → List Texts → List Texts
without texts groups = filter (λ other. not (texts_eq texts other)) groups

without-twice : (texts : Texts) (groups : List Texts) → without texts (without texts groups) ≡ without texts groups
without-twice texts [] = refl
without-twice texts (group ∷ groups) =
    elim (cases_Bool (texts_eq texts group)) as (λ _. without texts (without texts (group ∷ groups)) ≡ without texts (group ∷ groups)) [
      | inl same ↦ rw same (without-twice texts groups)
      | inr apart ↦ rw apart (rw apart (ap (λ more. group ∷ more) (without-twice texts groups)))
    ]

without-none : (texts : Texts) (groups : List Texts) → list_any (texts_eq texts) groups ≡ false → without texts groups ≡ groups
without-none texts [] none = refl
without-none texts (group ∷ groups) none =
    let parts = or_parts (texts_eq texts group) (list_any (texts_eq texts) groups) none in
    ap (λ t. cond (not t) (group ∷ without texts groups) (without texts groups)) parts.0 ∙ ap (λ more. group ∷ more) (without-none texts groups parts.1)

-- a group that occurs at the start, at least once
once-repeated : {A : Type 0} (texts : Texts) (again : List A) (groups : List Texts) → each_once texts_eq (texts ∷ map (λ x. texts) again ++ groups) ≡ texts ∷ without texts (each_once texts_eq groups)
once-repeated texts [] groups = refl
once-repeated texts (x ∷ again) groups =
    ap (λ more. texts ∷ without texts more) (once-repeated texts again groups)
    ∙ ap (λ t. texts ∷ cond (not t) (texts ∷ without texts (without texts (each_once texts_eq groups))) (without texts (without texts (each_once texts_eq groups)))) ((texts_eq-Decides texts texts).1 refl)
    ∙ ap (λ more. texts ∷ more) (without-twice texts (each_once texts_eq groups))

module _ (by : GroupBy) where
  -- all records are in the group of these texts
  abbrev pub AreIn : Texts → List Fields → Type 0
  AreIn texts given = AllByRecursion (λ (fields : Fields). common_in by fields ≡ Some texts) given

  texts-in : (texts : Texts) (given more : List Fields) → AreIn texts given → filter_map (common_in by) (given ++ more) ≡ map (λ fields. texts) given ++ filter_map (common_in by) more
  texts-in texts [] more are = refl
  texts-in texts (fields ∷ given) more are = ap₂ cons_option are.0 (texts-in texts given more are.1)

  own-group : (fields : Fields) (own texts : Texts) → common_in by fields ≡ Some own → is_in by texts fields ≡ texts_eq texts own
  own-group fields own texts is = ap (λ group. elim group as (λ _. Bool) [ Some own ↦ texts_eq texts own | None ↦ false ]) is

  all-in : (texts : Texts) (given : List Fields) → AreIn texts given → members by texts given ≡ given
  all-in texts [] are = refl
  all-in texts (fields ∷ given) are =
      let is : is_in by texts fields ≡ true = own-group fields texts texts are.0 ∙ (texts_eq-Decides texts texts).1 refl in
      ap₂ (λ t more. cond t (fields ∷ more) more) is (all-in texts given are.1)

  none-in : (own texts : Texts) → texts_eq texts own ≡ false → (given : List Fields) → AreIn own given → members by texts given ≡ []
  none-in own texts apart [] are = refl
  none-in own texts apart (fields ∷ given) are =
      let isnt : is_in by texts fields ≡ false = own-group fields own texts are.0 ∙ apart in
      ap₂ (λ t more. cond t (fields ∷ more) more) isnt (none-in own texts apart given are.1)

  -- Records that are made of each of some records, one or more, which are then all of a group.
  module _ (group : Fields → Texts) (made : Fields → List Fields) where
    pub record IsGroup (fields : Fields) : Type 0 where
      pub first : Fields
      pub following : List Fields
      pub made_are : made fields ≡ first ∷ following
      pub are_in : AreIn (group fields) (made fields)

    abbrev all : List Fields → List Fields
    all given = flat_map made given

    abbrev AreGroups : List Fields → Type 0
    AreGroups given = AllByRecursion IsGroup given

    abbrev DifferGroups : List Fields → Type 0
    DifferGroups given = AreApart texts_eq texts_eq-Decides (map group given)

    groups-are : (given : List Fields) → AreGroups given → DifferGroups given → groups_in by (all given) ≡ map group given
    groups-are [] are apart = refl
    groups-are (fields ∷ given) are apart =
        let here = are.0 in
        let own = group fields in
        let rest = filter_map (common_in by) (all given) in
        ap (each_once texts_eq) (texts-in own (made fields) (all given) here.are_in ∙ ap (λ made. map (λ (fields : Fields). own) made ++ rest) here.made_are)
        ∙ once-repeated own here.following rest
        ∙ ap (λ groups. own ∷ without own groups) (groups-are given are.1 apart.1)
        ∙ ap (λ groups. own ∷ groups) (without-none own (map group given) apart.0)

    none-of-all : (texts : Texts) (given : List Fields) → AreGroups given → list_any (texts_eq texts) (map group given) ≡ false → members by texts (all given) ≡ []
    none-of-all texts [] are none = refl
    none-of-all texts (fields ∷ given) are none =
        let parts = or_parts (texts_eq texts (group fields)) (list_any (texts_eq texts) (map group given)) none in
        filter-append (is_in by texts) (made fields) (all given)
        ∙ ap₂ (λ xs ys. xs ++ ys) (none-in (group fields) texts parts.0 (made fields) are.0.are_in) (none-of-all texts given are.1 parts.1)

    members-are : (given : List Fields) → AreGroups given → DifferGroups given → map (λ texts. members by texts (all given)) (map group given) ≡ map made given
    members-are [] are apart = refl
    members-are (fields ∷ given) are apart =
        let own = group fields in
        let in_all = λ (texts : Texts). members by texts (all (fields ∷ given)) in
        let in_rest = λ (texts : Texts). members by texts (all given) in
        let split = λ (texts : Texts). filter-append (is_in by texts) (made fields) (all given) in
        let here : in_all own ≡ made fields =
        split own ∙ ap₂ (λ xs ys. xs ++ ys) (all-in own (made fields) are.0.are_in) (none-of-all own given are.1 apart.0) ∙ append-nil (made fields) in
        let others : map in_all (map group given) ≡ map in_rest (map group given) =
        map-same texts_eq texts_eq-Decides in_rest in_all own (map group given) apart.0
        (λ texts differs. split texts ∙ ap (λ xs. xs ++ in_rest texts) (none-in own texts (eq-swap texts_eq texts_eq-Decides texts own ∙ differs) (made fields) are.0.are_in)) in
        ap₂ (λ x xs. x ∷ xs) here (others ∙ members-are given are.1 apart.1)

    -- the groups of all that is made are what is made of each
    pub grouped-are : (given : List Fields) → AreGroups given → DifferGroups given → map (λ texts. members by texts (all given)) (groups_in by (all given)) ≡ map made given
    grouped-are given are apart = ap (map (λ texts. members by texts (all given))) (groups-are given are apart) ∙ members-are given are apart
