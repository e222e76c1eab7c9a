use Rattle.std.proofs.Common.{◌++◌, ◌∷◌, [], ap, ◌∙◌, arith}
use Rattle.mlr_spec.specs.Pairs.{put_at}
use Rattle.mlr_record.specs.NodeView.{node_of}
use Rattle.mlr_record.proofs.Unflattening.{depth-node, items-finished-more, finished-put}
use Rattle.mlr_record.proofs.unflatten.+finish.Goals as goal

pub finish_items-finished-requires : goal.finish_items-finished-requires
finish_items-finished-requires t c = (
  let less = depth-node c.args.nodes.now c.loop-place.place (c.entry.result.0.now, node_of c.entry.result.1.now) c.entry.ensures in
      omega (arith, less, c.decreases),
  tt,
)

pub finish_items-loop-place-preserved : goal.finish_items-loop-place-preserved
finish_items-loop-place-preserved t c =
    let into = c.loop-place.into in
    items-finished-more into c.push.new.self c.args.nodes.now c.loop-place.place c.entry.result.0.now (node_of c.entry.result.1.now) c.entry.ensures c.loop-place.invariant
    (c.in_ok-push.ensures ∙ ap (λ tree. into ++ tree ∷ []) c.in_ok-finished.ensures)

pub finish_pairs-finished-requires : goal.finish_pairs-finished-requires
finish_pairs-finished-requires t c = (
  let less = depth-node c.args.nodes.now c.loop-place.place (c.entry.result.0.now, node_of c.entry.result.1.now) c.entry.ensures in
      omega (arith, less, c.decreases),
  tt,
)

pub finish_pairs-loop-place-preserved : goal.finish_pairs-loop-place-preserved
finish_pairs-loop-place-preserved t c =
    let into = c.loop-place.into in
    let name = c.entry.result.0.now in
    finished-put into c.args.nodes.now c.loop-place.place name (node_of c.entry.result.1.now) c.entry.ensures c.loop-place.invariant c.put.new.self c.len-place-end.ensures.distinct
    (c.in_ok-put.ensures ∙ ap (λ tree. put_at name tree into) c.in_ok-finished.ensures)
