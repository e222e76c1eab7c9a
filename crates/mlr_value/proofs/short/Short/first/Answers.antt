use Rattle.std.proofs.Common.{length, take, ap, sym, ◌∙◌, arith}
use Rattle.std.proofs.lemmas.List.{take-take, length-take-le}
use Rattle.mlr_value.proofs.short.Short.first.Goals as goal

pub returns-clause-prefix : goal.returns-clause-prefix
returns-clause-prefix c few =
    let cells = c.self.inside.cells in
    let len = length c.args.self.now in
    let count = sym (ap length c.self.view_is) ∙ length-take-le c.self.inside.len cells (omega (arith, c.self.invariant.0, c.self.told.1)) in
    ap (take len) c.copy_from_slice.ensures.after ∙ take-take len 16 cells few
    ∙ ap (λ n. take n cells) count ∙ c.self.view_is
