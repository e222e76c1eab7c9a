use Rattle.std.proofs.Common.{rules, subst}
use Rattle.cli_verbs.specs.Rename.{compiled_rules}
use Rattle.cli_verbs.proofs.Ruling.{Ruling, ruling_ends, ruling_goes, ruling_refused, two_first}
use Rattle.cli_verbs.proofs.rename.push_rules.Goals as goal

pub returns-in_err-push_rule-clause-refused : goal.returns-in_err-push_rule-clause-refused
returns-in_err-push_rule-clause-refused c =
    let left = c.loop-left.left.now in
    let names = two_first left c.old-item.result c.new-item.result c.in-len2-up.len_at_least c.old-item.is c.new-item.is in
    let ruling = subst (λ names. Ruling c.args.number c.args.names.now names (compiled_rules c.args.rules.now.items) (compiled_rules c.loop-left.rules.items)) names c.loop-left.invariant in
    let refused = ruling_refused _ _ _ _ _ _ _ c.in_err-push_rule.field-0.0 ruling c.in_err-push_rule.ensures.refused in
    search rules

pub loop-left-preserved : goal.loop-left-preserved
loop-left-preserved c =
    let left = c.loop-left.left.now in
    let names = two_first left c.old-item.result c.new-item.result c.in-len2-up.len_at_least c.old-item.is c.new-item.is in
    ruling_goes _ _ _ _ _ _ _ _
    (subst (λ names. Ruling c.args.number c.args.names.now names (compiled_rules c.args.rules.now.items) (compiled_rules c.loop-left.rules.items)) names c.loop-left.invariant)
    c.in_ok-push_rule.ensures.means c.in_ok-push_rule.ensures.good

pub returns-clause-means : goal.returns-clause-means
returns-clause-means c = (ruling_ends _ _ _ _ _ (search rules) c.loop-left.invariant).0
