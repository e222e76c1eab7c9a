use Rattle.std.proofs.Common.{◌≤◌, length, take, ap, sym, ◌∙◌, arith}
use Rattle.std.proofs.lemmas.List.{take-take, length-take-le}
use Rattle.mlr_value.proofs.short.Short.lanes.Goals as goal

pub returns-clause-prefix : goal.returns-clause-prefix
returns-clause-prefix c n le few =
    let cells = c.self.inside.cells in
    let count = sym (ap length c.self.view_is) ∙ length-take-le c.self.inside.len cells (omega (arith, c.self.invariant.0, c.self.told)) in
    let within : n ≤ c.self.inside.len = omega (arith, le, count) in
    take-take n 16 cells few
    ∙ sym (ap (take n) (sym c.self.view_is) ∙ take-take n c.self.inside.len cells within)
