use Rattle.std.proofs.Common.{◌<◌, ◌^◌, arith, length}
use Rattle.std.specs.Prelude.{is_ok}
use Rattle.text_columns.proofs.Coded.{push-within}
use Rattle.text_columns.proofs.chunk.Chunk.push_within.Goals as goal

pub invariant_of-self : goal.invariant_of-self
invariant_of-self c =
    let bytes = c.extend_from_slice.new.self in
    let fits : length bytes.items < 2 ^ 64 = omega (arith, bytes.ok, bytes.small) in
    (push-within (is_ok c.extend_from_slice.result) c.self.inside.bytes.items c.args.line.now bytes.items c.self.invariant c.requires c.extend_from_slice.ensures.items fits).0

pub returns : goal.returns
returns c =
    let bytes = c.extend_from_slice.new.self in
    let fits : length bytes.items < 2 ^ 64 = omega (arith, bytes.ok, bytes.small) in
    let is =
    (push-within (is_ok c.extend_from_slice.result) c.self.inside.bytes.items c.args.line.now bytes.items c.self.invariant c.requires c.extend_from_slice.ensures.items fits).1
    in
    rw (← c.self.view_is, c.is_ok.ensures.value) is
