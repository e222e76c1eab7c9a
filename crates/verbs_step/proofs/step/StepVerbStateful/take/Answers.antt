use Rattle.std.proofs.Common.{◌≡◌, cond, List, [], ◌∷◌, ◌++◌, ◌∙◌, set, Some, None, Result, Ok, Err, is_ok, OnOk, ap, length, subst, sym}
use Rattle.std.proofs.lemmas.List.{map-append, with_items_is}
use Rattle.std.proofs.lemmas.Result.{on_ok_weaker}
use Rattle.mlr_event.specs.declared.event.Event.TheVariants as event
use Rattle.mlr_groups.specs.Grouping.{members}
use Rattle.mlr_groups.specs.Represents.{GroupsOf}
use Rattle.verbs_base.specs.Records.{Row, records, with_context}
use Rattle.verbs_step.specs.Represents.{HasTracks, StepRepresents, kept_in, kept_in_groups, kept_of_all, kept_of_group}
use Rattle.verbs_step.specs.Step.{step_groups, with_steps}
use Rattle.verbs_step.proofs.Entering.{kept-at, kept-set}
use Rattle.verbs_step.proofs.step.StepVerbStateful.take.Goals as goal
use Rattle.verbs_step.proofs.step.StepVerbStateful.take.Goals.{After-push}

pushed-ok : {T E A : Type 0} (out pushed kept : A) (result : Result T E) → out ≡ cond (is_ok result) pushed kept → OnOk result (out ≡ pushed)
pushed-ok out pushed kept (Ok x) is = is
pushed-ok out pushed kept (Err e) is = tt

-- the tracks of the record's group
entered : (c : After-push) (given : List Row) → StepRepresents c.args.self.now (records given) → HasTracks c.args.self.now.options (records given) c.args.fields (Some c.in-Some.place) c.enter.new.tracks.items
entered c given represents =
    subst (λ place. HasTracks c.args.self.now.options (records given) c.args.fields place c.enter.new.tracks.items) c.in-Some.is (c.in_ok-place.ensures.tracks (records given) represents.0 represents.2)

-- what they keep
keeps : (c : After-push) (given : List Row) (represents : StepRepresents c.args.self.now (records given))
    → kept_in c.deref_mut.result.now ≡ kept_of_group c.args.self.now.options (members (step_groups c.args.self.now.options) (entered c given represents).0 (records given))
keeps c given represents =
    let has = entered c given represents in
    ap kept_in (c.deref_mut.ensures.value ∙ ap (λ v. v.items) c.index_mut.ensures.value) ∙ kept-at c.enter.new.tracks.items c.in-Some.place _ has.2 c.index_mut.result.now

pub returns-clause-represents : goal.returns-clause-represents
returns-clause-represents c =
    let at = (goal.at.returns-clause-represents c).After-push in
    let options = c.args.self.now.options in
    on_ok_weaker c.push.result
    (λ pushed. record {
      follows = λ given represents. (
          let has = entered at given represents in
          let tracks = c.index_mut.result.now in
          let as-long : length c.add_steps.new.tracks ≡ tracks.len = c.add_steps.auto.tracks ∙ ap length c.deref_mut.ensures.value ∙ sym tracks.ok.0 in
          let more : records (given ++ (c.args.fields, c.args.ctx) ∷ []) ≡ records given ++ c.args.fields ∷ [] = map-append (λ row. row.0) given ((c.args.fields, c.args.ctx) ∷ []) in (
            subst (λ given. GroupsOf (step_groups options) given c.enter.new.groups) (sym more) (c.in_ok-place.ensures.groups (records given) represents.0),
            represents.1,
            kept-set c.enter.new.tracks.items c.in-Some.place _
                ∙ ap (set (kept_in_groups c.enter.new.tracks.items) c.in-Some.place) (ap kept_in (with_items_is tracks c.add_steps.new.tracks as-long) ∙ c.in_ok-add_steps.ensures.kept (members (step_groups options) has.0 (records given)) (keeps at given represents))
                ∙ has.3
                ∙ ap (kept_of_all options) (sym more),
          )
          );
    })
    (pushed-ok _ _ _ c.push.result c.push.ensures)

pub returns-clause-gives : goal.returns-clause-gives
returns-clause-gives c =
    let at = (goal.at.returns-clause-gives c).After-push in
    let options = c.args.self.now.options in
    on_ok_weaker c.push.result
    (λ pushed. record {
      gives = λ given represents. (
          let has = entered at given represents in
          let before = members (step_groups options) has.0 (records given) in
          let fields = c.in_ok-add_steps.ensures.fields before (keeps at given represents) in
          pushed
          ∙ ap (λ fields. c.args.out.now ++ event.Rec fields c.args.ctx ∷ []) fields
          ∙ ap (λ group. c.args.out.now ++ with_context c.args.ctx (elim group [ Some texts ↦ with_steps options (members (step_groups options) texts (records given)) c.args.fields ∷ [] | None ↦ [] ])) (sym has.1)
          );
    })
    (pushed-ok _ _ _ c.push.result c.push.ensures)
