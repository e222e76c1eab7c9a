use Rattle.std.proofs.Common.{◌≡◌, ◌+◌, ◌-◌, true, cond, drop, take, subst, ap, sym, ◌∙◌}
use Rattle.mlr_record.specs.Fields.{pairs_of}
use Rattle.mlr_event.proofs.Naming.{at-place}
use Rattle.verbs_base.proofs.Moving.{IsPlacing}
use Rattle.verbs_base.proofs.MovingLast.{all-last, places-last}
use Rattle.verbs_base.proofs.extraction.move_named_last.Goals as goal
use Rattle.verbs_base.proofs.extraction.move_named_last.Goals.{then-place_last, else-place_last}

pub loop-name-preserved : goal.loop-name-preserved
loop-name-preserved c =
    let names = c.args.names.now in
    let i = c.loop-name.name-index in
    let name = c.name-item.result in
    let all = pairs_of c.args.fields.now in
    let pairs = pairs_of c.loop-name.fields in
    let rest = c.loop-name.rest in
    let placing = subst (λ left. IsPlacing true names left all (drop rest pairs) (take rest pairs)) (at-place names i name c.loop-name-test.true c.name-item.is) c.loop-name.invariant.placing in
    let counted : c.if-place_last.rest ≡ cond c.place_last.result (rest - 1) rest =
    elim c.if-place_last.branch [
      | then-place_last w ↦ w.rest-is ∙ ap (λ t. cond t (rest - 1) rest) (sym w.if-place_last.true)
      | else-place_last w ↦ w.rest-is ∙ ap (λ t. cond t (rest - 1) rest) (sym w.if-place_last.false)
    ] in
    let next = places-last names (drop (i + 1) names) name all pairs (pairs_of c.place_last.new.fields) rest c.if-place_last.rest c.place_last.result placing c.place_last.ensures.placed counted in
    record { within = next.0; placing = next.1 }

pub returns : goal.returns
returns c =
    all-last c.args.names.now c.loop-name.name-index (pairs_of c.args.fields.now) (pairs_of c.loop-name.fields) c.loop-name.rest c.loop-name-test.false c.loop-name.invariant.placing
