-- `sort` by the field of `top`.
use Rattle.std.specs.Prelude.{ℕ, List, [], ◌∷◌}
use Rattle.mlr_spec.specs.declared.arith.Order.{Order}
use Rattle.mlr_spec.specs.declared.arith.Order.TheVariants.{Number, NumberDown}
use Rattle.verbs_sort.specs.declared.sort.Sort.{Sort}
use Rattle.verbs_top.specs.declared.top.TopOrder.{TopOrder}
use Rattle.verbs_top.specs.declared.top.TopOrder.TheVariants.{Max, Min}

-- the order in which `top` gives ints
abbrev pub order_like : TopOrder → Order
order_like Max = NumberDown
order_like Min = Number

-- `sort` by one field in this order
abbrev pub sort_like : TopOrder → List ℕ → Sort
sort_like order name = record { flags = record { order = order_like order; names = name ∷ [] } ∷ [] }
