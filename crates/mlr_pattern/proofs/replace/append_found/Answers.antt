use Rattle.std.proofs.Common.{◌≡◌, ℕ, ◌+◌, ◌-◌, ◌≤◌, ◌++◌, false, nat_lt, List, IfSome, slice_range, if◌then◌else◌, sym, ap, ◌∙◌, subst, arith}
use Rattle.regex.specs.Bytes.{matcher_pattern}
use Rattle.regex.proofs.SearchLemmas.{leftmost_within}
use Rattle.mlr_pattern.specs.Groups.{group_text}
use Rattle.mlr_pattern.specs.Replacing.{filled}
use Rattle.mlr_pattern.proofs.Replacing.{whole_span, same_groups}
use Rattle.mlr_pattern.proofs.replace.append_found.Goals as goal

pub append_match-requires-clause-start : goal.append_match-requires-clause-start
append_match-requires-clause-start c =
    let text = c.args.text.now in
    let found = c.in-Some.ensures.found in
    let at = leftmost_within (matcher_pattern c.args.matcher.now) text false c.args.start found.0 found.1 in
    subst (λ o. IfSome o (λ (s : ℕ × ℕ). c.args.after ≤ s.0 + 1)) (sym (whole_span text found.0 c.in-Some.found found.2))
    (omega (arith, c.requires, at.0))

pub returns-in_ok-append_match-in-Some-clause-found :
    goal.returns-in_ok-append_match-in-Some-clause-found
returns-in_ok-append_match-in-Some-clause-found c =
    let text = c.args.text.now in
    let found = c.in-Some.ensures.found in
    let m = found.0 in
    let old = c.args.out.now in
    let after = c.args.after in
    let put : (ℕ → List ℕ) → ℕ × ℕ → List ℕ = λ g s. if nat_lt s.1 after then old
    else old ++ (slice_range text (after - 1) s.0 ++ filled g c.args.by.now) in
    let whole = subst (λ o. IfSome o (λ (s : ℕ × ℕ). (c.in_ok-append_match-in-Some.field-0 ≡ s.1)
    × (c.append_match.new.out ≡ put (group_text c.in-Some.found) s)))
    (whole_span text m c.in-Some.found found.2) c.in_ok-append_match-in-Some.ensures in
    (m, found.1, (whole.0, whole.1 ∙ ap (λ g. put g (m.start, m.trace.end)) (same_groups text m c.in-Some.found found.2)))
