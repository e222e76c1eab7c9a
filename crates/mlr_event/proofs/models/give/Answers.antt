use Rattle.std.proofs.Common.{[], ◌∷◌, ◌++◌, ap, sym, ◌∙◌, append_assoc}
use Rattle.mlr_event.specs.declared.event.Event.TheVariants as event
use Rattle.mlr_event.specs.Models.{Row, last_first}
use Rattle.mlr_event.proofs.Tac.{last-pushed}
use Rattle.mlr_event.proofs.models.give.Goals as goal

pub loop-fields-preserved : goal.loop-fields-preserved
loop-fields-preserved c =
    let left = c.pop.new.self.items in
    let out = c.loop-fields.out in
    let row : Row = (c.in-Some.fields, c.in-Some.ctx) in
    ap (λ t. t ++ last_first left) c.in_ok-push.ensures
    ∙ append_assoc out (event.Rec row.0 row.1 ∷ []) (last_first left)
    ∙ ap (λ t. out ++ t) (sym (last-pushed left row) ∙ sym (ap last_first c.in-Some.ensures.items))
    ∙ c.loop-fields.invariant
