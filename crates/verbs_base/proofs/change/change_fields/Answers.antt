use Rattle.std.proofs.Common.{◌≡◌, ◌<◌, ℕ, List, [], length, set, get_or, ap, ap₂, ◌∙◌, arith, length-set}
use Rattle.mlr_spec.specs.Tree.{Tree, absent}
use Rattle.verbs_base.specs.Changing.{changed_field}
use Rattle.verbs_base.proofs.Changing.{changed-more}
use Rattle.verbs_base.proofs.change.change_fields.Goals as goal

pub loop-place-preserved : goal.loop-place-preserved
loop-place-preserved g c =
    let takes = g.C.Change.takes c.args.change.now in
    let image = g.C.Change.image c.args.change.now in
    let before = c.loop-place.fields in
    let place = c.loop-place.place in
    let none : List ℕ × Tree = ([], absent) in
    let below : place < length before = omega (arith, c.loop-place-test.true, c.loop-place.auto.place-end, c.loop-place.invariant.count, c.len-place-end.ensures.length) in
    let put : c.change_field.new.fields ≡ set before place (changed_field takes image (get_or before place none))
    = c.in_ok-change_field.ensures.changed none
    ∙ ap₂ (λ t m. set before place (changed_field t m (get_or before place none))) c.loop-place.invariant.takes c.loop-place.invariant.image in
    record {
      takes = c.in_ok-change_field.ensures.takes ∙ c.loop-place.invariant.takes;
      image = c.in_ok-change_field.ensures.image ∙ c.loop-place.invariant.image;
      fields = changed-more takes image before c.change_field.new.fields place none below put ∙ c.loop-place.invariant.fields;
      count = ap length put ∙ length-set before place _ ∙ c.loop-place.invariant.count;
    }
