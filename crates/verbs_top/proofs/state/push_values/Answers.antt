use Rattle.std.proofs.Common.{◌++◌, map, ◌∙◌}
use Rattle.std.specs.List.{range_with_len}
use Rattle.std.proofs.lemmas.Result.{on_ok_weaker}
use Rattle.mlr_spec.specs.Pairs.{put_each}
use Rattle.verbs_base.specs.Records.{events_of}
use Rattle.verbs_top.specs.State.{longest, made_fields, trees_in}
use Rattle.verbs_top.proofs.state.push_values.Goals as goal

pub returns : goal.returns
returns c =
    on_ok_weaker c.push_places.result
    (λ given.
    given
    ∙ (λ i. c.args.out.now ++ events_of (map (λ place. (put_each c.args.first.now (made_fields c.args.options.now.output (c.deref.ensures.value i) (map trees_in (c.deref-2.ensures.value i)) place), c.args.ctx)) (range_with_len 0 (longest (map trees_in (c.deref-2.ensures.value i))))))
    ∙ (λ i. c.args.out.now ++ events_of (map (λ place. (put_each c.args.first.now (made_fields c.args.options.now.output (c.in_ok-outputs.ensures i) (c.in_ok-lists.ensures i) place), c.args.ctx)) (range_with_len 0 (longest (c.in_ok-lists.ensures i))))))
    c.push_places.ensures
