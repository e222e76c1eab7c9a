use Rattle.std.proofs.Common.{true, sym, ap, ◌∙◌}
use Rattle.mlr_json.specs.Writing.{gap}
use Rattle.mlr_json.proofs.ShortLines.{appends-as, short-gap}
use Rattle.mlr_json.proofs.write.append_gap.Goals as goal

pub returns-then-level-le-SHORT_LEVEL-clause-ok : goal.returns-then-level-le-SHORT_LEVEL-clause-ok
returns-then-level-le-SHORT_LEVEL-clause-ok c =
    appends-as c.append-then-level-le-SHORT_LEVEL.result _ _ _ _ c.append-then-level-le-SHORT_LEVEL.ensures.appended
    (short-gap c.args.level c.if-level-le-SHORT_LEVEL.true ∙ sym (ap (λ lines. gap lines c.args.first c.args.level) c.if-not-lines.false ∙ ap (λ first. gap true first c.args.level) c.if-first-2.false))
