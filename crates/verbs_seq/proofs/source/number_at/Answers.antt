use Rattle.std.proofs.Common.{w64, FitsSigned, to_z, of_z, sym, ap, subst, ◌∙◌}
use Rattle.std.specs.Int.{w128}
use Rattle.std.proofs.Math.Facts.{to_z-of_z}
use Rattle.verbs_seq.specs.Seq.{number_from}
use Rattle.verbs_seq.proofs.Counting.{number-fits, converted, fits-wider, is-number}
use Rattle.verbs_seq.proofs.source.number_at.Goals as goal

pub overflow_add-number : goal.overflow_add-number
overflow_add-number c =
    subst (FitsSigned w128) (sym (is-number c.args.start c.args.step c.args.place c.ranges.start c.ranges.step c.ranges.place.fits c.from.result c.from-2.result c.from-3.result c.from.ensures c.from-2.ensures c.from-3.ensures))
    (fits-wider (number_from c.args.start c.args.step c.args.place) (number-fits c.args.start c.args.stop c.args.step c.args.place c.requires c.ranges.start c.ranges.stop))

pub returns : goal.returns
returns c =
    let fits = number-fits c.args.start c.args.stop c.args.step c.args.place c.requires c.ranges.start c.ranges.stop in
    let is = is-number c.args.start c.args.step c.args.place c.ranges.start c.ranges.step c.ranges.place.fits c.from.result c.from-2.result c.from-3.result c.from.ensures c.from-2.ensures c.from-3.ensures in
    converted c.try_from.result (number_from c.args.start c.args.step c.args.place) _ (to_z w64 (of_z w64 c.args.stop)) c.unwrap_or.result (ap (λ z. to_z w128 (of_z w128 z)) is ∙ to_z-of_z (fits-wider _ fits)) fits c.try_from.ensures c.unwrap_or.ensures
