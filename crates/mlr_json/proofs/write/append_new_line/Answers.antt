use Rattle.mlr_json.proofs.ShortLines.{appends-as, short-line}
use Rattle.mlr_json.proofs.write.append_new_line.Goals as goal

pub returns-then-level-le-SHORT_LEVEL-clause-ok : goal.returns-then-level-le-SHORT_LEVEL-clause-ok
returns-then-level-le-SHORT_LEVEL-clause-ok c =
    appends-as c.append.result _ _ _ _ c.append.ensures.appended (short-line c.args.level c.if-level-le-SHORT_LEVEL.true)
