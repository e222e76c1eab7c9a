-- A value may go into a thread, and may be shared by threads. The laws of the whole cycle are those of its
-- first type.
use denote.Param.Send.{IsSend, IsSync, sendable}
use Rattle.std.proofs.Crossing.{crosses}
use Rattle.mlr_keys.proofs.Crosses.{crosses_keys}
use Rattle.mlr_value.proofs.array_value.ArrayValue.TheLaws.TheKnot as knot
use Rattle.mlr_value.specs.contracts.array_value.ArrayValue
use Rattle.mlr_value.specs.contracts.map_value.MapValue
use Rattle.mlr_value.specs.contracts.value.Value

-- into a thread
pub Value-send : IsSend Value.the_row
Value-send = search (crosses, crosses_keys, knot.crosses, sendable) depth 60 fits 20000

pub Value-field-send : IsSend Value.the_field.row
Value-field-send = search (crosses, crosses_keys, knot.crosses, sendable) depth 60 fits 20000

pub MapValue-send : IsSend MapValue.the_row
MapValue-send = search (crosses, crosses_keys, knot.crosses, sendable) depth 60 fits 20000

pub ArrayValue-send : IsSend ArrayValue.the_row
ArrayValue-send = search (crosses, crosses_keys, knot.crosses, sendable) depth 60 fits 20000

-- shared by threads
pub Value-sync : IsSync Value.the_row
Value-sync = search (crosses, crosses_keys, knot.crosses, sendable) depth 60 fits 20000

pub Value-field-sync : IsSync Value.the_field.row
Value-field-sync = search (crosses, crosses_keys, knot.crosses, sendable) depth 60 fits 20000

pub MapValue-sync : IsSync MapValue.the_row
MapValue-sync = search (crosses, crosses_keys, knot.crosses, sendable) depth 60 fits 20000

pub ArrayValue-sync : IsSync ArrayValue.the_row
ArrayValue-sync = search (crosses, crosses_keys, knot.crosses, sendable) depth 60 fits 20000

pub ruleset crosses_value = (
  Value-send,
  Value-field-send,
  MapValue-send,
  ArrayValue-send,
  Value-sync,
  Value-field-sync,
  MapValue-sync,
  ArrayValue-sync,
)
