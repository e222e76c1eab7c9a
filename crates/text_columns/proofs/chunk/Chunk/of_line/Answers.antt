use Rattle.std.proofs.Common.{◌<◌, ◌^◌, length, arith, ap}
use Rattle.text_columns.proofs.Coded.{one-line}
use Rattle.text_columns.proofs.chunk.Chunk.of_line.Goals as goal

pub invariant_of-result : goal.invariant_of-result
invariant_of-result c =
    let bytes = c.extend_from_slice.new.self in
    let fits : length bytes.items < 2 ^ 64 = omega (arith, bytes.ok, bytes.small) in
    (one-line c.in_ok-bytes.bytes.items c.args.line.now bytes.items (ap length c.in_ok-bytes.ensures.items) c.requires c.in_ok-extend_from_slice.ensures.items fits).0

pub returns : goal.returns
returns c =
    let bytes = c.extend_from_slice.new.self in
    let fits : length bytes.items < 2 ^ 64 = omega (arith, bytes.ok, bytes.small) in
    (one-line c.in_ok-bytes.bytes.items c.args.line.now bytes.items (ap length c.in_ok-bytes.ensures.items) c.requires c.in_ok-extend_from_slice.ensures.items fits).1
