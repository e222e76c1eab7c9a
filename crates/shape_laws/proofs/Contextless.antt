-- What `reshape` to wide gives at the end stands on the records alone, and not on their contexts.
use Rattle.std.proofs.Common.{◌≡◌, ℕ, List, [], ◌∷◌, ◌++◌, map, refl, ap, ap₂, ◌∙◌, inl, inr}
use Rattle.std.specs.List.{cons_option, filter_map, flat_map}
use Rattle.std.specs.Str.{bytes_eq}
use Rattle.std.proofs.lemmas.Bool.{cases_Bool}
use Rattle.group_state.specs.Grouped.{group_in}
use Rattle.mlr_event.specs.declared.event.Ctx.{Ctx}
use Rattle.mlr_groups.specs.Grouping.{each_once, groups_in, is_in, members}
use Rattle.mlr_groups.specs.declared.group_by.GroupBy.{GroupBy}
use Rattle.mlr_groups.specs.declared.group_by.GroupBy.TheVariants.{Others}
use Rattle.mlr_spec.specs.Pairs.{keys_of, put_each}
use Rattle.verbs_base.specs.Choosing.{dropped}
use Rattle.verbs_base.specs.Records.{Fields, Row, records}
use Rattle.verbs_reshape.specs.ToWide.{both, filled_rows, pair_in, pairs_in, to_wide, wide}
use Rattle.verbs_reshape.specs.declared.to_wide.ToWide.{ToWide}

records-in : (by : GroupBy) (texts : List (List ℕ)) (rows : List Row) → records (group_in by rows texts) ≡ members by texts (records rows)
records-in by texts [] = refl
records-in by texts (row ∷ rows) =
    elim (cases_Bool (is_in by texts row.0)) as (λ _. records (group_in by (row ∷ rows) texts) ≡ members by texts (records (row ∷ rows))) [
      | inl is ↦ rw is (ap (λ given. row.0 ∷ given) (records-in by texts rows))
      | inr isnt ↦ rw isnt (records-in by texts rows)
    ]

module _ (options : ToWide) where
  abbrev pub pairs_of : List Fields → Fields
  pairs_of given = filter_map (pair_in options) given

  -- the record of a group
  abbrev pub wide_of : Ctx → List Fields → List Row
  wide_of ctx [] = []
  wide_of ctx (fields ∷ given) = (put_each (dropped (both options) fields) (pairs_of (fields ∷ given)), ctx) ∷ []

  abbrev pub groups_of : List Fields → List (List Fields)
  groups_of given = map (λ texts. members (Others (both options)) texts given) (groups_in (Others (both options)) given)

  abbrev pub keys_for : List Fields → List (List ℕ)
  keys_for given = each_once bytes_eq (keys_of (pairs_of given))

  abbrev pub late_of : Ctx → List Fields → List Row
  late_of ctx given = filled_rows (keys_for given) (flat_map (wide_of ctx) (groups_of given))

  pairs-same : (rows : List Row) → pairs_in options rows ≡ pairs_of (records rows)
  pairs-same [] = refl
  pairs-same (row ∷ rows) = ap (cons_option (pair_in options row.0)) (pairs-same rows)

  wide-same : (rows : List Row) (ctx : Ctx) → wide options rows ctx ≡ wide_of ctx (records rows)
  wide-same [] ctx = refl
  wide-same (row ∷ rows) ctx = ap (λ pairs. (put_each (dropped (both options) row.0) pairs, ctx) ∷ []) (pairs-same (row ∷ rows))

  groups-same : (rows : List Row) (ctx : Ctx) (groups : List (List (List ℕ)))
      → flat_map (λ group. wide options group ctx) (map (group_in (Others (both options)) rows) groups)
      ≡ flat_map (wide_of ctx) (map (λ texts. members (Others (both options)) texts (records rows)) groups)
  groups-same rows ctx [] = refl
  groups-same rows ctx (texts ∷ groups) =
      ap₂ (λ xs ys. xs ++ ys) (wide-same (group_in (Others (both options)) rows texts) ctx ∙ ap (wide_of ctx) (records-in (Others (both options)) texts rows)) (groups-same rows ctx groups)

  pub late-same : (rows : List Row) (ctx : Ctx) → (to_wide options).late rows ctx ≡ late_of ctx (records rows)
  late-same rows ctx =
      ap₂ (λ pairs wide. filled_rows (each_once bytes_eq (keys_of pairs)) wide) (pairs-same rows) (groups-same rows ctx (groups_in (Others (both options)) (records rows)))
