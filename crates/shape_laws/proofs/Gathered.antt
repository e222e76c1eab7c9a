-- Records made of others: those that are made of one record are one group, and the groups come in the order of these records.
use Rattle.std.proofs.Common.{◌≡◌, ℕ, Bool, true, false, not, List, [], ◌∷◌, ◌++◌, map, Some, None, refl, ap, ap₂, ◌∙◌}
use Rattle.std.specs.List.{cons_option, filter, filter_map, flat_map, list_any}
use Rattle.std.proofs.lemmas.Bool.{or_parts}
use Rattle.std.proofs.lemmas.List.{append-nil, map-append}
use Rattle.std.proofs.lemmas.List.Elements.{filter-append, filter_map-append}
use Rattle.mlr_groups.specs.declared.group_by.GroupBy.{GroupBy}
use Rattle.mlr_groups.specs.Grouping.{common_in, each_once, is_in, texts_eq}
use Rattle.mlr_groups.proofs.KeyTexts.{texts_eq-Decides}
use Rattle.mlr_groups.proofs.Once.{AreApart, eq-swap, map-same}
use Rattle.verbs_base.specs.Records.{Row, records}
use Rattle.group_state.specs.Grouped.{group_in, grouped}

abbrev Texts : Type 0
Texts = List (List ℕ)

lacking : (k : Texts) (ks : List Texts) → list_any (texts_eq k) ks ≡ false → filter (λ other. not (texts_eq k other)) ks ≡ ks
lacking k [] none = refl
lacking k (other ∷ ks) none =
    let parts = or_parts (texts_eq k other) (list_any (texts_eq k) ks) none in
    rw parts.0 (ap (λ more. other ∷ more) (lacking k ks parts.1))

module _ {P : Type 0} (by : GroupBy) (own : Row → Texts) (make : Row → P → Row) (parts : Row → List P)
    (common : (row : Row) (part : P) → common_in by (make row part).0 ≡ Some (own row))
    (some : (row : Row) → (first : P) × (more : List P) × (parts row ≡ first ∷ more)) where
  abbrev made : Row → List Row
  made row = map (make row) (parts row)

  abbrev all_made : List Row → List Row
  all_made rows = flat_map made rows

  abbrev groups_made : List Row → List Texts
  groups_made rows = filter_map (common_in by) (records (all_made rows))

  -- each group once
  common-parts : (row : Row) (ps : List P) → filter_map (common_in by) (records (map (make row) ps)) ≡ map (λ p. own row) ps
  common-parts row [] = refl
  common-parts row (p ∷ ps) = ap₂ cons_option (common row p) (common-parts row ps)

  repeated : (k : Texts) (ks : List Texts) (ps : List P) → list_any (texts_eq k) (each_once texts_eq ks) ≡ false
      → filter (λ other. not (texts_eq k other)) (each_once texts_eq (map (λ p. k) ps ++ ks)) ≡ each_once texts_eq ks
  repeated k ks [] none = lacking k (each_once texts_eq ks) none
  repeated k ks (p ∷ ps) none =
      let self : texts_eq k k ≡ true = (texts_eq-Decides k k).1 refl in
      let rest = repeated k ks ps none in
      rw self (ap (filter (λ other. not (texts_eq k other))) rest ∙ lacking k (each_once texts_eq ks) none)

  groups-once : (rows : List Row) → AreApart texts_eq texts_eq-Decides (map own rows) → each_once texts_eq (groups_made rows) ≡ map own rows
  groups-once [] apart = refl
  groups-once (row ∷ rows) apart =
      let (first, more, is) = some row in
      let rest = groups-once rows apart.1 in
      ap (λ ps. each_once texts_eq (filter_map (common_in by) (records (map (make row) ps ++ all_made rows)))) is
      ∙ ap (λ all. each_once texts_eq (filter_map (common_in by) all)) (map-append (λ (r : Row). r.0) (map (make row) (first ∷ more)) (all_made rows))
      ∙ ap (each_once texts_eq) (filter_map-append (common_in by) (records (map (make row) (first ∷ more))) (records (all_made rows)))
      ∙ ap (λ ks. each_once texts_eq (ks ++ groups_made rows)) (common-parts row (first ∷ more))
      ∙ ap (λ ks. own row ∷ ks) (repeated (own row) (groups_made rows) more (ap (list_any (texts_eq (own row))) rest ∙ apart.0) ∙ rest)

  -- the records of a group
  in_group : (k : Texts) (row : Row) (p : P) → is_in by k (make row p).0 ≡ texts_eq k (own row)
  in_group k row p = ap (λ group. elim group as (λ _. Bool) [ Some own ↦ texts_eq k own | None ↦ false ]) (common row p)

  own-part : (row : Row) (ps : List P) → filter (λ r. is_in by (own row) r.0) (map (make row) ps) ≡ map (make row) ps
  own-part row [] = refl
  own-part row (p ∷ ps) =
      let is : is_in by (own row) (make row p).0 ≡ true = in_group (own row) row p ∙ (texts_eq-Decides (own row) (own row)).1 refl in
      rw is (ap (λ more. make row p ∷ more) (own-part row ps))

  other-part : (k : Texts) (row : Row) (ps : List P) → texts_eq k (own row) ≡ false → filter (λ r. is_in by k r.0) (map (make row) ps) ≡ []
  other-part k row [] other = refl
  other-part k row (p ∷ ps) other =
      let isnt : is_in by k (make row p).0 ≡ false = in_group k row p ∙ other in
      rw isnt (other-part k row ps other)

  none-made : (k : Texts) (rows : List Row) → list_any (texts_eq k) (map own rows) ≡ false → group_in by (all_made rows) k ≡ []
  none-made k [] none = refl
  none-made k (row ∷ rows) none =
      let apart = or_parts (texts_eq k (own row)) (list_any (texts_eq k) (map own rows)) none in
      filter-append (λ (r : Row). is_in by k r.0) (made row) (all_made rows)
      ∙ ap₂ (λ xs ys. xs ++ ys) (other-part k row (parts row) apart.0) (none-made k rows apart.1)

  groups-parts : (rows : List Row) → AreApart texts_eq texts_eq-Decides (map own rows) → map (group_in by (all_made rows)) (map own rows) ≡ map made rows
  groups-parts [] apart = refl
  groups-parts (row ∷ rows) apart =
      ap₂ (λ x xs. x ∷ xs)
      (filter-append (λ (r : Row). is_in by (own row) r.0) (made row) (all_made rows)
      ∙ ap₂ (λ xs ys. xs ++ ys) (own-part row (parts row)) (none-made (own row) rows apart.0)
      ∙ append-nil (made row))
      (map-same texts_eq texts_eq-Decides (group_in by (all_made rows)) (group_in by (made row ++ all_made rows)) (own row) (map own rows) apart.0 (λ k differs.
      filter-append (λ (r : Row). is_in by k r.0) (made row) (all_made rows)
      ∙ ap (λ xs. xs ++ group_in by (all_made rows) k) (other-part k row (parts row) (eq-swap texts_eq texts_eq-Decides k (own row) ∙ differs)))
      ∙ groups-parts rows apart.1)

  pub gathered : (rows : List Row) → AreApart texts_eq texts_eq-Decides (map own rows) → grouped by (all_made rows) ≡ map made rows
  gathered rows apart = ap (map (group_in by (all_made rows))) (groups-once rows apart) ∙ groups-parts rows apart
