use Rattle.std.specs.Option.{option_map}
use Rattle.std.proofs.lemmas.Result.{on_ok_weaker}
use Rattle.mlr_spec.specs.Flatten.{put_path}
use Rattle.mlr_record.specs.NodeView.{node_of, tree_at_end}
use Rattle.mlr_record.specs.Parts.{parts_of_rest}
use Rattle.mlr_record.proofs.Unflattening.{change_child-taken}
use Rattle.mlr_record.proofs.unflatten.+paths.Goals as goal

pub put_child-returns : goal.put_child-returns
put_child-returns t c =
    let change = put_path (parts_of_rest c.args.separator.now (option_map (λ text. text.now) c.args.rest)) (tree_at_end c.args.end) in
    on_ok_weaker c.put.result
    (change_child-taken c.args.name.now change c.args.into.now c.take-node.new.self c.put.new.self (node_of c.take-node.result) (node_of c.in_ok-node.node) c.take-node.ensures.taken c.take-node.ensures.left c.in_ok-node.ensures)
    c.put.ensures
