use Rattle.std.proofs.Common.{subst₂, Some}
use Rattle.regex.specs.Bytes.{matcher_pattern}
use Rattle.regex.specs.Patterns.{find}
use Rattle.regex.specs.Search.{Answers}
use Rattle.regex.proofs.ReplaceLemmas.{IfOk-weaker}
use Rattle.mlr_pattern.proofs.Replacing.{AppendsLate, none_next, some_next, skipped, second_next, inside}
use Rattle.mlr_pattern.proofs.replace.append_next.Goals as goal

pub returns-in-Some-clause-found : goal.returns-in-Some-clause-found
returns-in-Some-clause-found c =
    let re = matcher_pattern c.args.matcher.now in
    let text = c.args.text.now in
    let by = c.args.by.now in
    let after = c.args.after in
    let new = c.append_found-in-Some.new.out in
    let first = skipped re text by after _ c.in-Some.end c.args.out.now _ _ c.saturating_sub.ensures c.in-Some.is c.if-end-after.true c.in_ok-end.ensures.found in
    IfOk-weaker _ _ (λ end found. second_next re text by after c.args.out.now new first.0 first.1 first.2 end
    (subst₂ (λ p old. Answers end (find p text after) (AppendsLate re text by old new after)) c.in_ok-end.ensures.same first.3 found))
    c.append_found-in-Some.result c.append_found-in-Some.ensures.found

pub returns-in-Some-clause-within : goal.returns-in-Some-clause-within
returns-in-Some-clause-within c =
    let re = matcher_pattern c.args.matcher.now in
    let text = c.args.text.now in
    let by = c.args.by.now in
    let new = c.append_found-in-Some.new.out in
    IfOk-weaker _ _ (λ end found. inside re text by c.args.after c.args.out.now new end found)
    c.append_found-in-Some.result (returns-in-Some-clause-found c)

pub returns-in_default-clause-found : goal.returns-in_default-clause-found
returns-in_default-clause-found c =
    some_next (matcher_pattern c.args.matcher.now) c.args.text.now c.args.by.now c.args.after _ c.in-Some.end c.args.out.now _ _
    c.saturating_sub.ensures c.in-Some.is c.if-end-after.false c.in_ok-end.ensures.found

pub returns-in_default-clause-within : goal.returns-in_default-clause-within
returns-in_default-clause-within c =
    inside (matcher_pattern c.args.matcher.now) c.args.text.now c.args.by.now c.args.after c.args.out.now c.append_found.new.out (Some c.in-Some.end) (returns-in_default-clause-found c)

pub returns-in_default-2-clause-found : goal.returns-in_default-2-clause-found
returns-in_default-2-clause-found c =
    none_next (matcher_pattern c.args.matcher.now) c.args.text.now c.args.by.now c.args.after _ c.args.out.now _ _
    c.saturating_sub.ensures c.in_default.is c.in_ok-end.ensures.found
