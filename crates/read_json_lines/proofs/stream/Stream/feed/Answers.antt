use Rattle.std.proofs.Common.{arith}
use Rattle.read_json_lines.proofs.Turning.{turned-both}
use Rattle.read_json_lines.proofs.stream.Stream.feed.Goals as goal

pub loop-self-preserved : goal.loop-self-preserved
loop-self-preserved c =
    let mid = c.loop-self.self in
    record {
      turned = λ fit.
          let first = c.loop-self.invariant.turned fit in
          turned-both c.args.self.now mid c.turn.new.self c.args.piece.now c.loop-self.left.now c.in_ok-left.left.now c.args.out.now c.loop-self.out c.turn.new.out
          c.loop-self-test.true first (c.in_ok-left.ensures.turned first.fit);
      room = omega (arith, c.loop-self.invariant.room, c.in_ok-left.ensures.room);
    }
