use Rattle.std.proofs.Common.{◌∙◌, ap, sym, ◌+ℤ◌, ◌-ℤ◌, w64, Some}
use Rattle.std.proofs.lemmas.Int.{wrapping_add_is, wrapping_sub_is}
use Rattle.mlr_spec.specs.Arith.{exact, fitting}
use Rattle.mlr_ints.proofs.Fitting.{fitting-wrap}
use Rattle.mlr_ints.proofs.results.result_of.Goals as goal

pub returns-in-DotPlus : goal.returns-in-DotPlus
returns-in-DotPlus c =
    ap Some (wrapping_add_is w64 c.args.x c.args.y c.ranges.x c.ranges.y)
    ∙ sym (fitting-wrap (c.args.x +ℤ c.args.y))
    ∙ ap (λ op. fitting (exact op c.args.x c.args.y)) (sym c.in-DotPlus.is)

pub returns-in-DotMinus : goal.returns-in-DotMinus
returns-in-DotMinus c =
    ap Some (wrapping_sub_is w64 c.args.x c.args.y c.ranges.x c.ranges.y)
    ∙ sym (fitting-wrap (c.args.x -ℤ c.args.y))
    ∙ ap (λ op. fitting (exact op c.args.x c.args.y)) (sym c.in-DotMinus.is)
