use Rattle.std.proofs.Common.{ap, arith}
use Rattle.read_xtab_pprint.specs.Counting.{count-xtab}
use Rattle.read_xtab_pprint.specs.XtabRules.{xtab_count}
use Rattle.read_xtab_pprint.proofs.rules.XtabRules.take_last.Goals as goal

pub give-requires-2 : goal.give-requires-2
give-requires-2 c = omega (arith, ap xtab_count c.in_ok-take.ensures.state, count-xtab c.args.self.now c.args.line.now)
