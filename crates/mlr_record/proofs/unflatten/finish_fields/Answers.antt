use Rattle.std.proofs.Common.{◌++◌, ◌∷◌, [], ap, ◌∙◌}
use Rattle.mlr_record.specs.NodeView.{node_of}
use Rattle.mlr_record.proofs.Unflattening.{finished-absent, finished-more}
use Rattle.mlr_record.proofs.unflatten.finish_fields.Goals as goal

pub push-requires : goal.push-requires
push-requires c =
    finished-absent c.loop-place.into c.args.nodes.now c.loop-place.place c.entry.result.0.now (node_of c.entry.result.1.now) c.entry.ensures c.loop-place.invariant c.len-place-end.ensures.distinct

pub loop-place-preserved : goal.loop-place-preserved
loop-place-preserved c =
    let into = c.loop-place.into in
    let name = c.entry.result.0.now in
    finished-more into c.args.nodes.now c.loop-place.place name (node_of c.entry.result.1.now) c.entry.ensures c.loop-place.invariant c.push.new.self
    (c.in_ok-push.ensures ∙ ap (λ tree. into ++ (name, tree) ∷ []) c.in_ok-finished.ensures)
