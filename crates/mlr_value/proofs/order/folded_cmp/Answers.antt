use Rattle.std.proofs.Common.{◌∙◌, sym, arith}
use Rattle.mlr_value.proofs.Folding.{folded_cmp-end}
use Rattle.mlr_value.proofs.order.folded_cmp.Goals as goal

pub returns : goal.returns
returns c =
    c.cmp.ensures ∙ sym (folded_cmp-end c.args.x.now c.args.y.now c.loop-place.place (omega arith))
    ∙ sym c.loop-place.invariant
