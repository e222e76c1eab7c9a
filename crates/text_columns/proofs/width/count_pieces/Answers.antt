use Rattle.std.proofs.Common.{◌≡◌, length, arith, rules}
use Rattle.text_columns.proofs.CodePoints.{points-none}
use Rattle.text_columns.proofs.width.count_pieces.Goals as goal

pub returns-clause-count : goal.returns-clause-count
returns-clause-count c =
    let none : length c.loop-rest.rest.now ≡ 0 = search rules in
    omega (arith, c.loop-rest.invariant.0, points-none c.loop-rest.rest.now none)
