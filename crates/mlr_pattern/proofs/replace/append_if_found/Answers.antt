use Rattle.std.proofs.Common.{◌≡◌, ◌++◌, false, None, Some, IfNone, ap, ◌∙◌, subst}
use Rattle.regex.specs.Bytes.{matcher_pattern}
use Rattle.regex.specs.Search.{Answers, next_match}
use Rattle.mlr_pattern.specs.Groups.{after_first}
use Rattle.mlr_pattern.proofs.Replacing.{Appends, found_whole, none_whole, found_first}
use Rattle.mlr_pattern.proofs.replace.append_if_found.Goals as goal

pub returns-in_default-clause-none : goal.returns-in_default-clause-none
returns-in_default-clause-none c =
    let re = matcher_pattern c.args.matcher.now in
    let text = c.args.text.now in
    let by = c.args.by.now in
    let old = c.args.out.now in
    let new = c.append_next.new.out in
    let none = subst (λ r. Answers r (next_match false re text 0) (Appends re text by old new 0)) c.in_default.is c.in_ok-end.ensures.found in
    let kept = subst (λ r. IfNone r (new ≡ old)) c.in_default.is c.in_ok-end.ensures.none in
    λ _. (kept, none_whole re text by c.args.which none)

pub returns-clause-found : goal.returns-clause-found
returns-clause-found c =
    let re = matcher_pattern c.args.matcher.now in
    let text = c.args.text.now in
    let by = c.args.by.now in
    let old = c.args.out.now in
    let new = c.append_next.new.out in
    let end = c.in-Some.end in
    let found = subst (λ r. Answers r (next_match false re text 0) (Appends re text by old new 0)) c.in-Some.is c.in_ok-end.ensures.found in
    λ _. c.in_ok-append_after.ensures.text
    ∙ ap (λ p. new ++ after_first c.args.which p text by end) c.in_ok-end.ensures.same
    ∙ found_whole re text by c.args.which old new end found

pub returns-in_default-clause-matched : goal.returns-in_default-clause-matched
returns-in_default-clause-matched c =
    let re = matcher_pattern c.args.matcher.now in
    let text = c.args.text.now in
    found_first re text c.args.by.now c.args.out.now c.append_next.new.out None
    (subst (λ r. Answers r (next_match false re text 0) (Appends re text c.args.by.now c.args.out.now c.append_next.new.out 0)) c.in_default.is c.in_ok-end.ensures.found)

pub returns-clause-matched : goal.returns-clause-matched
returns-clause-matched c =
    let re = matcher_pattern c.args.matcher.now in
    let text = c.args.text.now in
    found_first re text c.args.by.now c.args.out.now c.append_next.new.out (Some c.in-Some.end)
    (subst (λ r. Answers r (next_match false re text 0) (Appends re text c.args.by.now c.args.out.now c.append_next.new.out 0)) c.in-Some.is c.in_ok-end.ensures.found)
