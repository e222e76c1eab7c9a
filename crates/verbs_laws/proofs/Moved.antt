-- The records group by group are the records in another order.
use Rattle.std.proofs.Common.{◌≡◌, ℕ, Bool, true, false, List, [], ◌∷◌, ◌||◌, Some, None, is_some, refl, ap, sym, subst, ◌∙◌, inl, inr}
use Rattle.std.specs.List.{cons_option, filter, filter_map, flat_map, list_any}
use Rattle.std.specs.List.Sorted.{IsPermutation}
use Rattle.std.proofs.lemmas.Bool.{or_right}
use Rattle.std.proofs.lemmas.List.Folds.{flat_map-map}
use Rattle.mlr_spec.proofs.Splitting.{cases_Option}
use Rattle.mlr_groups.specs.declared.group_by.GroupBy.{GroupBy}
use Rattle.mlr_groups.specs.Grouping.{common_in, groups_in, is_in, texts_eq}
use Rattle.mlr_groups.proofs.KeyTexts.{texts_eq-Decides}
use Rattle.mlr_groups.proofs.Once.{AreApart, any-once, each_once-apart, eq-swap}
use Rattle.verbs_base.specs.Records.{Row, records}
use Rattle.group_state.specs.Grouped.{group_in, grouped}
use Rattle.verbs_laws.proofs.Parts.{AreDisjoint, any-agree, any-never, parts, within}

abbrev Texts : Type 0
Texts = List (List ℕ)

module _ (by : GroupBy) where
  abbrev in_group : Texts → Row → Bool
  in_group texts row = is_in by texts row.0

  -- whether a record is in a group
  abbrev has_group : Row → Bool
  has_group row = is_some (common_in by row.0)

  own-group : (row : Row) (own : Texts) → common_in by row.0 ≡ Some own → (texts : Texts) → in_group texts row ≡ texts_eq texts own
  own-group row own is texts = ap (λ group. elim group as (λ _. Bool) [ Some own ↦ texts_eq texts own | None ↦ false ]) is

  no-group : (row : Row) → common_in by row.0 ≡ None → (texts : Texts) → in_group texts row ≡ false
  no-group row none texts = ap (λ group. elim group as (λ _. Bool) [ Some own ↦ texts_eq texts own | None ↦ false ]) none

  within-own : (row : Row) (own : Texts) → common_in by row.0 ≡ Some own → (ks : List Texts) → within in_group ks row ≡ list_any (texts_eq own) ks
  within-own row own is ks = any-agree (λ texts. in_group texts row) (texts_eq own) (λ texts. own-group row own is texts ∙ eq-swap texts_eq texts_eq-Decides texts own) ks

  within-none : (row : Row) → common_in by row.0 ≡ None → (ks : List Texts) → within in_group ks row ≡ false
  within-none row none ks = any-agree (λ texts. in_group texts row) (λ texts. false) (λ texts. no-group row none texts) ks ∙ any-never ks

  one-disjoint : (k : Texts) (ks : List Texts) → list_any (texts_eq k) ks ≡ false → (row : Row) → in_group k row ≡ true → within in_group ks row ≡ false
  one-disjoint k ks apart row passes =
      elim (cases_Option (common_in by row.0)) as (λ _. within in_group ks row ≡ false) [
        | inr (own, is) ↦
            let same : k ≡ own = (texts_eq-Decides k own).0 (sym (own-group row own is k) ∙ passes) in
            within-own row own is ks ∙ ap (λ texts. list_any (texts_eq texts) ks) (sym same) ∙ apart
        | inl none ↦ within-none row none ks
      ]

  disjoint : (ks : List Texts) → AreApart texts_eq texts_eq-Decides ks → AreDisjoint in_group ks
  disjoint [] apart = tt
  disjoint (k ∷ ks) apart = (one-disjoint k ks apart.0, disjoint ks apart.1)

  -- the texts of the groups of some records are among others
  abbrev AreAmong : List Row → List Texts → Type 0
  AreAmong rows ks = (own : Texts) → list_any (texts_eq own) (filter_map (common_in by) (records rows)) ≡ true → list_any (texts_eq own) ks ≡ true

  covered : (ks : List Texts) (rows : List Row) → AreAmong rows ks → filter (within in_group ks) rows ≡ filter has_group rows
  covered ks [] among = refl
  covered ks (row ∷ rows) among =
      elim (cases_Option (common_in by row.0)) as (λ _. filter (within in_group ks) (row ∷ rows) ≡ filter has_group (row ∷ rows)) [
        | inr (own, is) ↦
            let texts : filter_map (common_in by) (records (row ∷ rows)) ≡ own ∷ filter_map (common_in by) (records rows) = ap (λ group. cons_option group (filter_map (common_in by) (records rows))) is in
            let rest : AreAmong rows ks = λ other found. among other (ap (list_any (texts_eq other)) texts ∙ or_right (texts_eq other own) _ found) in
            let self : list_any (texts_eq own) (filter_map (common_in by) (records (row ∷ rows))) ≡ true = ap (list_any (texts_eq own)) texts ∙ ap (λ t. t || list_any (texts_eq own) (filter_map (common_in by) (records rows))) ((texts_eq-Decides own own).1 refl) in
            let passes : within in_group ks row ≡ true = within-own row own is ks ∙ among own self in
            let has : has_group row ≡ true = ap is_some is in
            rw passes (rw has (ap (λ more. row ∷ more) (covered ks rows rest)))
        | inl none ↦
            let texts : filter_map (common_in by) (records (row ∷ rows)) ≡ filter_map (common_in by) (records rows) = ap (λ group. cons_option group (filter_map (common_in by) (records rows))) none in
            let rest : AreAmong rows ks = λ other found. among other (ap (list_any (texts_eq other)) texts ∙ found) in
            let fails : within in_group ks row ≡ false = within-none row none ks in
            let has : has_group row ≡ false = ap is_some none in
            rw fails (rw has (covered ks rows rest))
      ]

  pub moved : (rows : List Row) → IsPermutation (filter has_group rows) (flat_map (λ group. group) (grouped by rows))
  moved rows =
      let ks : List Texts = groups_in by (records rows) in
      let among : AreAmong rows ks = λ own found. any-once texts_eq texts_eq-Decides own (filter_map (common_in by) (records rows)) ∙ found in
      let all : IsPermutation (filter (within in_group ks) rows) (flat_map (λ texts. group_in by rows texts) ks) = parts in_group ks (disjoint ks (each_once-apart texts_eq texts_eq-Decides (filter_map (common_in by) (records rows)))) rows in
      subst (λ left. IsPermutation left (flat_map (λ group. group) (grouped by rows))) (covered ks rows among)
      (subst (λ right. IsPermutation (filter (within in_group ks) rows) right) (sym (flat_map-map (λ group. group) (group_in by rows) ks)) all)
