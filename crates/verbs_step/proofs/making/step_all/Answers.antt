use Rattle.std.proofs.Common.{◌<◌, ◌∙◌, ap, length, arith}
use Rattle.mlr_value.specs.Value.{tree_of}
use Rattle.verbs_step.specs.Made.{trees_of}
use Rattle.verbs_step.proofs.Tracks.{kept-next, left-next, made-more}
use Rattle.verbs_step.proofs.making.step_all.Goals as goal

pub loop-track-preserved : goal.loop-track-preserved
loop-track-preserved c =
    let loop = c.loop-track in
    let first = c.args.tracks.now in
    let value = tree_of c.args.value.now in
    let any = c.track-item.result in
    let below : loop.track-index < length first = omega arith in
    let room : loop.track-index < length loop.tracks = omega arith in record {
      made =
          ap trees_of c.in_ok-push.ensures.items
          ∙ made-more value first loop.tracks loop.track-index any below room loop.invariant.left c.args.made.now.items loop.made.items c.in_ok-step.field-0 loop.invariant.made c.in_ok-step.ensures.made;
      kept = kept-next value first loop.tracks loop.track-index any below room loop.invariant.left c.step.new.self loop.invariant.kept c.in_ok-step.ensures.kept;
      left = left-next value first loop.tracks loop.track-index any below room loop.invariant.left c.step.new.self;
    }
