use Rattle.std.proofs.Common.{ap, sym, subst}
use Rattle.std.specs.Option.{is_some}
use Rattle.mlr_record.specs.Fields.{pairs_of}
use Rattle.verbs_base.specs.Placing.{IsPlaced}
use Rattle.verbs_base.proofs.Moving.{placed-absent, placed-rotated}
use Rattle.verbs_base.proofs.Swapping.{placed-swapped}
use Rattle.verbs_base.proofs.Places.{named-absent}
use Rattle.verbs_base.proofs.extraction.place_first.Goals as goal

pub returns-in_default-clause-found : goal.returns-in_default-clause-found
returns-in_default-clause-found c = ap is_some (sym (named-absent c.args.name.now c.args.fields.now c.in_default.ensures))

pub returns-in_default-clause-placed : goal.returns-in_default-clause-placed
returns-in_default-clause-placed c = placed-absent c.args.keeps_order c.args.name.now c.args.fields.now c.requires c.in_default.ensures

pub returns-then-keeps_order-clause-placed : goal.returns-then-keeps_order-clause-placed
returns-then-keeps_order-clause-placed c =
    placed-rotated c.args.keeps_order c.args.name.now c.args.fields.now c.rotate_right.new.self c.in-Some.place c.requires c.in-Some.ensures c.rotate_right.ensures.after

pub returns-else-keeps_order-clause-placed : goal.returns-else-keeps_order-clause-placed
returns-else-keeps_order-clause-placed c =
    subst (λ fields. IsPlaced c.args.keeps_order c.args.name.now (pairs_of c.args.fields.now) (pairs_of fields)) (sym c.swap.ensures.after)
    (placed-swapped c.args.keeps_order c.args.name.now c.args.fields.now c.in-Some.place c.if-keeps_order.false c.requires c.in-Some.ensures)
