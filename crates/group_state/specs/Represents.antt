-- What is kept of each group.
use Rattle.std.specs.Prelude.{◌≡◌, List, [], ◌∷◌}
use Rattle.mlr_event.specs.declared.event.Ctx.{Ctx}
use Rattle.mlr_groups.specs.declared.group_by.GroupBy.{GroupBy}
use Rattle.mlr_groups.specs.Represents.{GroupsOf}
use Rattle.verbs_base.specs.Records.{Row, records}
use Rattle.group_state.specs.declared.group_states.GroupStates.{GroupStates}
use Rattle.group_state.specs.Grouped.{grouped}

-- what the records of a group have in common
abbrev pub common_of : {S : Type 0} → GroupStates S → GroupBy
common_of all = all.groups.by

-- what is kept of no records
abbrev pub none_of : {S : Type 0} → GroupStates S → S
none_of all = all.none

module _ {S : Type 0} (gives : S → List Row → Ctx → List Row) (holds : S → List Row → Type 0) where
  -- each state holds the records of its group, and gives the same of them
  abbrev pub EachHolds : (List Row → Ctx → List Row) → List S → List (List Row) → Type 0
  EachHolds late [] [] = Unit {0}
  EachHolds late [] (group ∷ groups) = ⊥
  EachHolds late (state ∷ states) [] = ⊥
  EachHolds late (state ∷ states) (group ∷ groups) = (gives state ≡ late) × holds state group × EachHolds late states groups

  -- the groups of these records, and what is kept of each
  abbrev pub HoldGroups : GroupBy → (List Row → Ctx → List Row) → List Row → GroupStates S → Type 0
  HoldGroups by late rows all = GroupsOf by (records rows) all.groups × (gives (none_of all) ≡ late) × EachHolds late all.states.items (grouped by rows)
