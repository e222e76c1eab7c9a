use Rattle.std.proofs.Common.{sym, ◌∙◌}
use Rattle.mlr_spec.specs.Tree.{is_collection}
use Rattle.mlr_value.specs.Value.{tree_of}
use Rattle.mlr_json.proofs.Written.{any-next, any-here}
use Rattle.mlr_json.proofs.write.has_collection.Goals as goal

pub returns-then-is_collection : goal.returns-then-is_collection
returns-then-is_collection c =
    sym (c.loop-place.invariant ∙ any-here is_collection c.args.items.now c.loop-place.place (tree_of c.item.result.now) c.item.ensures (sym c.is_collection.ensures ∙ c.if-is_collection.true))

pub loop-place-preserved : goal.loop-place-preserved
loop-place-preserved c =
    c.loop-place.invariant ∙ any-next is_collection c.args.items.now c.loop-place.place (tree_of c.item.result.now) c.item.ensures (sym c.is_collection.ensures ∙ c.if-is_collection.false)
