-- A value in a map or an array is less deep than the map or the array: the measure that the models of both give.
use Rattle.std.specs.Prelude.{◌≤◌, List, [], ◌∷◌}
use Rattle.std.proofs.Common.{arith}
use denote.Param.Weighed.{most}
use Rattle.mlr_value.specs.declared.value.Value.{Value}
use Rattle.mlr_value.specs.declared.map_value.Pair.{Pair}
use Rattle.mlr_value.specs.declared.value.Value.TheVariants.{Absent, Empty, Str, Int, Frac, Wide, Bool, Map, Array, Error}
use Rattle.mlr_value.specs.declared.array_value.ArrayValue.TheDeep.{deep-Value, deep-ArrayValue, deep-MapValue, deep-Pair}
use Rattle.mlr_value.specs.declared.array_value.ArrayValue.TheInside.{Inside as ArrayInside}
use Rattle.mlr_value.specs.declared.map_value.MapValue.TheInside.{Inside as MapInside}
use Rattle.mlr_value.specs.Value.{tree_of}
use Rattle.mlr_value.specs.Collections.{trees_in, pairs_of}
use Rattle.mlr_value.specs.Depth.{depth, items_depth, pairs_depth}

deep-Value≤depth : (value : Value) → deep-Value value ≤ depth (tree_of value)
deep-Value≤depth Absent = omega arith
deep-Value≤depth Empty = omega arith
deep-Value≤depth (Str text) = omega arith
deep-Value≤depth (Int value) = omega arith
deep-Value≤depth (Frac text) = omega arith
deep-Value≤depth (Wide text) = omega arith
deep-Value≤depth (Bool b) = omega arith
deep-Value≤depth (Map pairs) = omega arith
deep-Value≤depth (Array items) = omega arith
deep-Value≤depth Error = omega arith

most≤items_depth : (values : List Value) → most deep-Value values ≤ items_depth (trees_in values)
most≤items_depth [] = omega arith
most≤items_depth (value ∷ values) = omega (arith, deep-Value≤depth value, most≤items_depth values)

most≤pairs_depth : (pairs : List Pair) → most deep-Pair pairs ≤ pairs_depth (pairs_of pairs)
most≤pairs_depth [] = omega arith
most≤pairs_depth (pair ∷ pairs) = omega (arith, deep-Value≤depth pair.value, most≤pairs_depth pairs)

pub items_fall : (a : ArrayInside) → deep-ArrayValue a ≤ items_depth (trees_in a.items.items)
items_fall a = omega (arith, most≤items_depth a.items.items)

pub pairs_fall : (m : MapInside) → deep-MapValue m ≤ pairs_depth (pairs_of m.columns.pairs.items)
pairs_fall m = omega (arith, most≤pairs_depth m.columns.pairs.items)
