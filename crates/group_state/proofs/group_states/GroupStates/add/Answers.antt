use Rattle.std.proofs.Common.{◌≡◌, List, [], ◌∷◌, ◌++◌, ap, sym, subst, ◌∙◌, arith}
use Rattle.mlr_event.specs.declared.event.Ctx.{Ctx}
use Rattle.mlr_groups.specs.declared.group_by.GroupBy.{GroupBy}
use Rattle.mlr_groups.specs.Grouping.{IsGroupPlace}
use Rattle.mlr_groups.specs.Represents.{GroupsOf}
use Rattle.verbs_base.specs.Records.{Row, records}
use Rattle.group_state.specs.Grouped.{grouped}
use Rattle.group_state.specs.Represents.{EachHolds, HoldGroups}
use Rattle.group_state.proofs.Adding.{HasPlace, known-place, new-place, place-holds, place-taken, place-within}
use Rattle.group_state.proofs.Rows.{grouped-none, records-last}
use Rattle.group_state.proofs.group_states.GroupStates.add.Given as given
use Rattle.group_state.proofs.group_states.GroupStates.add.Goals as goal
use Rattle.group_state.proofs.group_states.GroupStates.add.Goals.{Joined-place-len, then-place-len+in_ok-fresh+in_ok-push, else-place-len}

-- the group of the record has a state
room : (g : given.Over) (c : Joined-place-len g) (by : GroupBy) (late : List Row → Ctx → List Row) (before : List Row) → HoldGroups g.S.AtEnd.gives g.S.AtEnd.holds by late before c.args.self.now
    → HasPlace g.S.AtEnd.gives g.S.AtEnd.holds late c.if-place-len.self.states.items c.in-Some.place (c.args.fields, c.args.ctx) (grouped by (before ++ (c.args.fields, c.args.ctx) ∷ []))
room g c by late before held =
    let row : Row = (c.args.fields, c.args.ctx) in
    let after = grouped by (before ++ row ∷ []) in
    let states = c.args.self.now.states.items in
    let at = subst (λ place. IsGroupPlace by (records before ++ c.args.fields ∷ []) c.args.fields place) c.in-Some.is (c.in_ok-place.ensures.place by (records before) held.0) in
    elim c.if-place-len.branch [
      | then-place-len+in_ok-fresh+in_ok-push w ↦
          subst (λ self. HasPlace g.S.AtEnd.gives g.S.AtEnd.holds late self.states.items c.in-Some.place row after) (sym w.self-is)
          (subst (λ items. HasPlace g.S.AtEnd.gives g.S.AtEnd.holds late items c.in-Some.place row after) (sym w.in_ok-push.ensures.items)
          (new-place g.S.AtEnd.gives g.S.AtEnd.holds late by before row c.in-Some.place at states held.2 (omega (arith, c.len.ensures, w.if-place-len.true)) w.in_ok-fresh.field-0 (w.in_ok-fresh.ensures.gives ∙ held.1) w.in_ok-fresh.ensures.holds))
      | else-place-len w ↦
          subst (λ self. HasPlace g.S.AtEnd.gives g.S.AtEnd.holds late self.states.items c.in-Some.place row after) (sym w.self-is)
          (known-place g.S.AtEnd.gives g.S.AtEnd.holds late by before row c.in-Some.place at states held.2 (omega (arith, c.len.ensures, w.if-place-len.false)))
    ]

-- the groups of the records are those with the record
entered : (g : given.Over) (c : Joined-place-len g) (by : GroupBy) (before : List Row) → GroupsOf by (records before) c.args.self.now.groups → GroupsOf by (records (before ++ (c.args.fields, c.args.ctx) ∷ [])) c.if-place-len.self.groups
entered g c by before held =
    let more = subst (λ given. GroupsOf by given c.enter.new.self) (sym (records-last by before (c.args.fields, c.args.ctx))) (c.in_ok-place.ensures.represents by (records before) held) in
    elim c.if-place-len.branch [
      | then-place-len+in_ok-fresh+in_ok-push w ↦ subst (λ self. GroupsOf by (records (before ++ (c.args.fields, c.args.ctx) ∷ [])) self.groups) (sym w.self-is) more
      | else-place-len w ↦ subst (λ self. GroupsOf by (records (before ++ (c.args.fields, c.args.ctx) ∷ [])) self.groups) (sym w.self-is) more
    ]

-- what is kept of no records stays
none-stays : (g : given.Over) (c : Joined-place-len g) → c.if-place-len.self.none ≡ c.args.self.now.none
none-stays g c =
    elim c.if-place-len.branch [
      | then-place-len+in_ok-fresh+in_ok-push w ↦ ap (λ self. self.none) w.self-is
      | else-place-len w ↦ ap (λ self. self.none) w.self-is
    ]

pub returns-in_default-clause-held : goal.returns-in_default-clause-held
returns-in_default-clause-held g c = λ by late before held.
    let row : Row = (c.args.fields, c.args.ctx) in
    let none = subst (λ place. IsGroupPlace by (records before ++ c.args.fields ∷ []) c.args.fields place) c.in_default.is (c.in_ok-place.ensures.place by (records before) held.0) in (
      subst (λ given. GroupsOf by given c.enter.new.self) (sym (records-last by before row)) (c.in_ok-place.ensures.represents by (records before) held.0),
      held.1,
      subst (EachHolds g.S.AtEnd.gives g.S.AtEnd.holds late c.args.self.now.states.items) (sym (grouped-none by before row none)) held.2,
    )

pub index_mut-requires : goal.index_mut-requires
index_mut-requires g c =
    let has = room g (goal.at.index_mut-requires g c).Joined-place-len c.requires.0 c.requires.1 c.requires.2 c.requires.3 in
    let within = place-within g.S.AtEnd.gives g.S.AtEnd.holds c.requires.1 c.if-place-len.self.states.items c.in-Some.place _ _ has in
    omega (arith, within, c.if-place-len.self.states.ok.0)

pub add-requires : goal.add-requires
add-requires g c =
    let has = room g (goal.at.add-requires g c).Joined-place-len c.requires.0 c.requires.1 c.requires.2 c.requires.3 in
    (has.group, (place-holds g.S.AtEnd.gives g.S.AtEnd.holds c.requires.1 c.if-place-len.self.states.items c.in-Some.place _ _ has c.index_mut.result.now c.index_mut.ensures.value).1)

pub returns-clause-held : goal.returns-clause-held
returns-clause-held g c = λ by late before held.
    let has = room g (goal.at.returns-clause-held g c).Joined-place-len by late before held in (
      entered g (goal.at.returns-clause-held g c).Joined-place-len by before held.0,
      ap g.S.AtEnd.gives (none-stays g (goal.at.returns-clause-held g c).Joined-place-len) ∙ held.1,
      place-taken g.S.AtEnd.gives g.S.AtEnd.holds late c.if-place-len.self.states.items c.in-Some.place _ _ has c.index_mut.result.now c.add.new.self c.index_mut.ensures.value c.add.ensures.gives c.in_ok-add.ensures.holds,
    )
