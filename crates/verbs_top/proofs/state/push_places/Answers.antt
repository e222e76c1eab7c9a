use Rattle.std.proofs.Common.{◌++◌, ◌∷◌, [], ap, map, ◌∙◌, arith}
use Rattle.mlr_event.specs.declared.event.Event.TheVariants as event
use Rattle.mlr_spec.specs.Pairs.{put_each}
use Rattle.verbs_top.specs.State.{made_fields, trees_in}
use Rattle.verbs_top.proofs.Stating.{place-more}
use Rattle.verbs_top.proofs.state.push_places.Goals as goal

pub place_record-requires : goal.place_record-requires
place_record-requires c = omega (arith, c.longest-place-end.ensures.bounded, c.loop-place-test.true)

pub loop-place-preserved : goal.loop-place-preserved
loop-place-preserved c =
    place-more (λ place. (put_each c.args.first.now (made_fields c.args.options.now.output c.args.outputs.now (map trees_in c.args.lists.now) place), c.args.ctx)) c.loop-place.place c.args.out.now c.loop-place.out c.push.new.self c.loop-place.invariant
    (c.in_ok-push.ensures ∙ ap (λ made. c.loop-place.out ++ event.Rec made c.args.ctx ∷ []) c.in_ok-made.ensures)
