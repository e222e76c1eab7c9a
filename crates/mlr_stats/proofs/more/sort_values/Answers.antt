use Rattle.std.proofs.Common.{rules, ap, map, ◌∙◌}
use Rattle.std.specs.Cmp.{on_total}
use Rattle.std.proofs.lemmas.Fn.{always_returns_same}
use Rattle.std.proofs.lemmas.Result.{on_ok_weaker}
use Rattle.mlr_spec.specs.Order.{order_of, order_total}
use Rattle.mlr_spec.specs.declared.arith.Order.TheVariants.{Mixed}
use Rattle.mlr_value.specs.Value.{tree_of}
use Rattle.mlr_value.specs.declared.value.Value.{Value}
use Rattle.mlr_stats.proofs.Arranged.{map-in_order}
use Rattle.mlr_stats.proofs.more.sort_values.Goals as goal

pub returns : goal.returns
returns c =
    let cmp = λ (x y : Value). order_of Mixed (tree_of x) (tree_of y) in
    on_ok_weaker c.sort_in_order.result
    (λ sorted. ap (map tree_of) (sorted cmp (on_total tree_of (order_total Mixed)) (always_returns_same _ _ _ (λ a r f called. search rules))) ∙ map-in_order tree_of (order_of Mixed) c.args.values.now.items)
    c.sort_in_order.ensures.ok
