use Rattle.std.proofs.Common.{◌≡◌, ◌+◌, ◌<◌, ◌≤◌, length, refl, ap, ap₂, ◌∙◌, subst, arith, length-set}
use Rattle.std.proofs.lemmas.List.Edits.{length-swap}
use Rattle.verbs_base.specs.Replacing.{IsReplaced}
use Rattle.verbs_base.proofs.Replacing.{all-replaced, more-replaced, one-removed, replaced}
use Rattle.verbs_base.proofs.per_record.Each.replace_all.Goals as goal
use Rattle.verbs_base.proofs.per_record.Each.replace_all.Goals.{then-branch, else-branch}

pub loop-place-init : goal.loop-place-init
loop-place-init g c = record { gives = refl; sound = c.requires; within = omega arith; count = refl; events = refl }

pub loop-place-preserved : goal.loop-place-preserved
loop-place-preserved g c =
    let gives = g.V.PerRecord.gives c.args.self.now.verb in
    let so_far = c.loop-place.invariant in
    let before = c.loop-place.events in
    let after = c.replace.new.events in
    let place = c.loop-place.place in
    let kept = c.loop-place.kept in
    let within : place < length before = omega (arith, c.loop-place-test.true, c.loop-place.auto.place-end, so_far.count, c.len-place-end.ensures) in
    let one : IsReplaced gives c.in_ok-replace.field-0 before after place = subst (λ v. IsReplaced v c.in_ok-replace.field-0 before after place) so_far.gives c.in_ok-replace.ensures.replaced in
    let same : length after ≡ length c.args.events.now = ap length one.after_is ∙ length-set before place one.event ∙ so_far.count in
    record {
      gives = c.in_ok-replace.ensures.gives ∙ so_far.gives;
      sound = c.in_ok-replace.ensures.sound;
      within = elim c.if-branch.branch [
        | then-branch w ↦ omega (arith, so_far.within, w.kept-is)
        | else-branch w ↦ omega (arith, so_far.within, w.kept-is)
      ];
      count = elim c.if-branch.branch [
        | then-branch w ↦ ap length w.events-is ∙ ap length w.swap_apart.ensures ∙ length-swap after kept place ∙ same
        | else-branch w ↦ ap length w.events-is ∙ same
      ];
      events = elim c.if-branch.branch [
        | then-branch w ↦
            ap₂ (λ k xs. replaced gives k (place + 1) xs) w.kept-is w.events-is
            ∙ more-replaced gives before after kept place within so_far.within (subst (λ k. IsReplaced gives k before after place) w.if-branch.true one) w.swap_apart.new.events w.swap_apart.ensures
            ∙ so_far.events
        | else-branch w ↦
            ap₂ (λ k xs. replaced gives k (place + 1) xs) w.kept-is w.events-is
            ∙ one-removed gives before after kept place within so_far.within (subst (λ k. IsReplaced gives k before after place) w.if-branch.false one)
            ∙ so_far.events
      ];
    }

pub returns-clause-given : goal.returns-clause-given
returns-clause-given g c =
    let so_far = c.loop-place.invariant in
    let past : length c.loop-place.events ≤ c.loop-place.place = omega (arith, c.loop-place-test.false, so_far.count, c.len-place-end.ensures) in
    c.truncate.ensures ∙ all-replaced (g.V.PerRecord.gives c.args.self.now.verb) c.loop-place.kept c.loop-place.place c.loop-place.events past ∙ so_far.events
