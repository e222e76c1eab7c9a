use Rattle.std.proofs.Common.{refl, subst, ◌∙◌}
use Rattle.verb_specs.specs.Verbs.{AreSameVerbs}
use Rattle.plan_verbs.proofs.Copies.{copy-is-sound}
use Rattle.plan_verbs.proofs.plan.Plan.copy.Goals as goal

pub returns-clause-sound : goal.returns-clause-sound
returns-clause-sound c = λ sound.
    let plan = c.args.self.now in
    copy-is-sound plan
    (record { read = c.in_ok-copy.field-0; inputs = c.in_ok-copy-2.field-0; no_input = plan.no_input; verbs = c.in_ok-copy_verbs.field-0; styles = c.in_ok-copy_styles.field-0; per_batch = plan.per_batch; turns = plan.turns; serial = plan.serial })
    (record {
      read = c.in_ok-copy.ensures.same;
      inputs = c.in_ok-copy-2.ensures;
      no_input = refl;
      verbs = subst (λ specs. AreSameVerbs specs c.in_ok-copy_verbs.field-0) c.as_slice.ensures c.in_ok-copy_verbs.ensures;
      styles = c.in_ok-copy_styles.ensures ∙ c.as_slice-2.ensures;
      per_batch = refl;
      turns = refl;
      serial = refl;
    })
    sound
