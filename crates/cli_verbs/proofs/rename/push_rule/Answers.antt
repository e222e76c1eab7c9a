use Rattle.std.proofs.Common.{subst, false}
use Rattle.cli_verbs.specs.PatternWords.{pattern_in}
use Rattle.cli_verbs.specs.Rename.{compiled_rules, IsNextRule}
use Rattle.cli_verbs.proofs.Ruling.{next_rule}
use Rattle.cli_verbs.proofs.rename.push_rule.Goals as goal

pub returns-clause-means : goal.returns-clause-means
returns-clause-means c =
    subst (λ old. IsNextRule (pattern_in c.args.number false old) c.args.new.now (compiled_rules c.args.rules.now.items) (compiled_rules c.push_pair.new.rules.items))
    c.as_slice.ensures (next_rule _ _ c.in_ok-pattern.pattern _ _ c.in_ok-pattern.ensures.compiled c.in_ok-push_pair.ensures)
