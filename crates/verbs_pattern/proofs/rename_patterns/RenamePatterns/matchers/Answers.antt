use Rattle.std.proofs.Common.{◌<◌, length, map, sym, ap, ◌∙◌, arith}
use Rattle.std.specs.Arc.{arc_value}
use Rattle.regex.specs.Bytes.{matcher_pattern, regex_pattern}
use Rattle.regex.proofs.SetLemmas.{one_more_pattern}
use Rattle.verbs_pattern.proofs.rename_patterns.RenamePatterns.matchers.Goals as goal

pub loop-place-preserved : goal.loop-place-preserved
loop-place-preserved c =
    let rules = c.as_slice-rules.result.now in
    let below : c.loop-place.place < length rules = omega (arith, c.loop-place-test.true, c.loop-place.auto.place-end) in
    ap (map matcher_pattern) c.in_ok-push.ensures.items
    ∙ one_more_pattern matcher_pattern (λ rule. regex_pattern (arc_value rule.0)) c.loop-place.matchers.items c.in_ok-matcher.field-0 rules c.loop-place.place c.index-rules-place.result below
    c.index-rules-place.is c.loop-place.invariant (c.in_ok-matcher.ensures.pattern ∙ ap regex_pattern (c.deref.ensures ∙ sym (ap (λ rule. arc_value rule.0) c.index-rules-place.is)))
