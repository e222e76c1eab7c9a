-- One more row: its group has a state, in which the row is taken.
use Rattle.std.proofs.Common.{◌≡◌, ℕ, ◌<◌, ◌≤◌, List, [], ◌∷◌, ◌++◌, set, length, Some, get_or, slice_get, ap, sym, subst, ◌∙◌, arith}
use Rattle.std.proofs.Math.Seq.{get_or-append_seam, set-append_seam}
use Rattle.std.proofs.lemmas.List.{length-append}
use Rattle.std.proofs.lemmas.Option.{slice_get-get_or, slice_get_within}
use Rattle.mlr_event.specs.declared.event.Ctx.{Ctx}
use Rattle.mlr_groups.specs.declared.group_by.GroupBy.{GroupBy}
use Rattle.mlr_groups.specs.Grouping.{IsGroupPlace}
use Rattle.verbs_base.specs.Records.{Row, records}
use Rattle.verbs_base.specs.Taking.{Follows}
use Rattle.group_state.specs.Grouped.{group_in, grouped}
use Rattle.group_state.specs.Represents.{EachHolds}
use Rattle.group_state.proofs.Holding.{each-at, each-many, each-push, each-set}
use Rattle.group_state.proofs.Rows.{grouped-at, grouped-known, grouped-new, place-last}

module _ {S : Type 0} (gives : S → List Row → Ctx → List Row) (holds : S → List Row → Type 0) (late : List Row → Ctx → List Row) where
  -- The states hold these groups. One of them, which may have no rows yet, is that of the row, and with the row in it they
  -- are the groups after the row.
  pub record HasPlace (states : List S) (p : ℕ) (row : Row) (after : List (List Row)) : Type 0 where
    pub groups : List (List Row)
    pub group : List Row
    pub each : EachHolds gives holds late states groups
    pub at : slice_get groups p ≡ Some group
    pub becomes : set groups p (group ++ row ∷ []) ≡ after

  module _ (by : GroupBy) (before : List Row) (row : Row) (p : ℕ) (at : IsGroupPlace by (records before ++ row.0 ∷ []) row.0 (Some p)) (states : List S) (each : EachHolds gives holds late states (grouped by before)) where
    -- the state of a known group is there
    pub known-place : p < length states → HasPlace states p row (grouped by (before ++ row ∷ []))
    known-place below =
        let within : p < length (grouped by before) = omega (arith, below, each-many gives holds late states (grouped by before) each) in
        record {
          groups = grouped by before;
          group = group_in by before at.0;
          each = each;
          at = grouped-at by before row p at within;
          becomes = grouped-known by before row p at within;
        }

    -- the state of a new group is added at the end
    pub new-place : length states ≤ p → (fresh : S) → gives fresh ≡ late → holds fresh [] → HasPlace (states ++ fresh ∷ []) p row (grouped by (before ++ row ∷ []))
    new-place following fresh same none =
        let past : length (grouped by before) ≤ p = omega (arith, following, each-many gives holds late states (grouped by before) each) in
        let last = place-last by before row p at past in
        record {
          groups = grouped by before ++ [] ∷ [];
          group = [];
          each = each-push gives holds late states (grouped by before) each fresh [] same none;
          at =
              ap (slice_get (grouped by before ++ [] ∷ [])) last
              ∙ slice_get-get_or (grouped by before ++ [] ∷ []) (length (grouped by before)) [] (omega (arith, length-append (grouped by before) ([] ∷ [])))
              ∙ ap Some (get_or-append_seam (grouped by before) [] [] []);
          becomes =
              ap (λ place. set (grouped by before ++ [] ∷ []) place (row ∷ [])) last ∙ set-append_seam (grouped by before) [] [] (row ∷ [])
              ∙ sym (grouped-new by before row p at past);
        }

  module _ (states : List S) (p : ℕ) (row : Row) (after : List (List Row)) (has : HasPlace states p row after) where
    pub place-within : p < length states
    place-within = omega (arith, slice_get_within has.groups p has.group has.at, each-many gives holds late states has.groups has.each)

    -- the state at the place
    pub place-holds : (state : S) → state ≡ get_or states p state → (gives state ≡ late) × holds state has.group
    place-holds state is = subst (λ s. (gives s ≡ late) × holds s has.group) (sym is) (each-at gives holds late states has.groups has.each p has.group has.at state)

    -- the state takes the row
    pub place-taken : (state taken : S) → state ≡ get_or states p state → gives taken ≡ gives state → Follows (holds state) (holds taken) (row ∷ []) → EachHolds gives holds late (set states p taken) after
    place-taken state taken is same follows =
        let old = place-holds state is in
        subst (EachHolds gives holds late (set states p taken)) has.becomes
        (each-set gives holds late states has.groups has.each p taken (has.group ++ row ∷ []) (same ∙ old.0) (follows.follows has.group old.1))
