use Rattle.std.proofs.Common.{◌<◌, length, map, get_or, sym, ap, ◌∙◌, arith}
use Rattle.std.specs.Arc.{arc_value}
use Rattle.regex.specs.Bytes.{matcher_pattern, regex_pattern}
use Rattle.verbs_pattern.specs.Renaming.{renamed_by}
use Rattle.verbs_pattern.proofs.Rules.{rule-more}
use Rattle.verbs_pattern.proofs.rename_patterns.rename_by_each.Goals as goal

pub loop-place-preserved : goal.loop-place-preserved
loop-place-preserved c =
    let rules = c.args.rules.now in
    let place = c.loop-place.place in
    let rule = c.index-rules-place.result in
    let re = regex_pattern (arc_value rule.0) in
    let below : place < length rules = omega (arith, c.loop-place-test.true, c.loop-place.auto.place-end) in
    let same = c.loop-place.invariant.same in record {
      same = c.in_ok-rename_with.ensures.same ∙ same;
      renamed =
          rule-more (λ r. regex_pattern (arc_value r.0)) (λ r. r.1) c.args.which rules (map matcher_pattern c.loop-place.matchers) place rule c.loop-place.fields c.rename_with.new.fields below
          c.index-rules-place.is (same ∙ c.requires)
          (c.in_ok-rename_with.ensures.renamed re
          ∙ ap (λ by. renamed_by c.args.which (get_or (map matcher_pattern c.loop-place.matchers) place re) by c.loop-place.fields) (c.as_slice-by.ensures ∙ sym (ap (λ r. r.1) c.index-rules-place.is)))
          ∙ c.loop-place.invariant.renamed;
    }
