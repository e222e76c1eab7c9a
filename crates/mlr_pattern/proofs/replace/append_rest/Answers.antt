use Rattle.std.proofs.Common.{◌≡◌, ◌≤◌, ◌++◌, false, length, drop, Some, None, IfNone, IfSome, ap, ap₂, ◌∙◌, subst, arith}
use Rattle.std.proofs.lemmas.List.{take_rest}
use Rattle.regex.specs.Bytes.{matcher_pattern}
use Rattle.regex.specs.Search.{Answers, next_match}
use Rattle.mlr_pattern.proofs.Replacing.{Appends, step, last_step, on_ok}
use Rattle.mlr_pattern.proofs.replace.append_rest.Goals as goal

pub loop-end-preserved : goal.loop-end-preserved
loop-end-preserved c =
    let re = matcher_pattern c.args.matcher.now in
    let text = c.args.text.now in
    let by = c.args.by.now in
    let l = c.loop-end in
    let new = c.append_next.new.out in
    let found : Answers (Some c.in-Some.end) (next_match false re text l.after) (Appends re text by l.out new l.after)
    = subst (λ p. Answers (Some c.in-Some.end) (next_match false p text l.after) (Appends re text by l.out new l.after)) l.invariant.same
    (subst (λ r. Answers r (next_match false (matcher_pattern l.matcher) text l.after) (Appends re text by l.out new l.after)) c.in-Some.is
    c.in_ok-end.ensures.found) in
    let within = subst (λ r. IfSome r (λ end. (l.after ≤ end) × (end ≤ length text))) c.in-Some.is c.in_ok-end.ensures.within in record {
      same = c.in_ok-end.ensures.same ∙ l.invariant.same;
      within = omega (arith, within.1);
      text = step re text by l.after c.in-Some.end l.out new _ found l.invariant.text;
    }

pub returns-clause-text : goal.returns-clause-text
returns-clause-text c =
    let re = matcher_pattern c.args.matcher.now in
    let text = c.args.text.now in
    let by = c.args.by.now in
    let l = c.loop-end in
    let new = c.append_next.new.out in
    let none = subst (λ p. next_match false p text l.after ≡ None) l.invariant.same
    (subst (λ r. Answers r (next_match false (matcher_pattern l.matcher) text l.after) (Appends re text by l.out new l.after)) c.in_default.is
    c.in_ok-end.ensures.found) in
    let kept = subst (λ r. IfNone r (new ≡ l.out)) c.in_default.is c.in_ok-end.ensures.none in
    on_ok c.append.result _ _ _ _ c.append.ensures.appended
    (ap₂ ◌++◌ kept (take_rest text c.saturating_sub.result ∙ ap (λ n. drop n text) c.saturating_sub.ensures)
    ∙ last_step re text by l.after l.out _ none l.invariant.text)
