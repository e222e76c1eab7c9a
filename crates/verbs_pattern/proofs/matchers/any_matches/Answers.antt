use Rattle.std.proofs.Common.{◌<◌, length, map, get_or, sym, ap, ◌∙◌, arith}
use Rattle.std.proofs.lemmas.List.{length-map}
use Rattle.regex.specs.Bytes.{matcher_pattern}
use Rattle.verbs_pattern.specs.Matching.{has_match}
use Rattle.verbs_pattern.proofs.Walks.{any_passes, none_more}
use Rattle.verbs_pattern.proofs.matchers.any_matches.Goals as goal

pub returns-then-is_matched_by-clause-found : goal.returns-then-is_matched_by-clause-found
returns-then-is_matched_by-clause-found c =
    let patterns = map matcher_pattern c.args.matchers.now in
    let text = c.args.text.now in
    let place = c.loop-place.place in
    let below : place < length patterns = omega (arith, c.loop-place-test.true, c.loop-place.auto.matchers, length-map c.args.matchers.now matcher_pattern) in
    sym (any_passes (λ re. has_match re text) patterns place below
    (λ re. sym (c.is_matched_by.ensures.found re ∙ ap (λ res. has_match (get_or res place re) text) c.loop-place.invariant.same) ∙ c.if-is_matched_by.true))

pub loop-place-preserved : goal.loop-place-preserved
loop-place-preserved c =
    let patterns = map matcher_pattern c.args.matchers.now in
    let text = c.args.text.now in
    let place = c.loop-place.place in
    let below : place < length patterns = omega (arith, c.loop-place-test.true, c.loop-place.auto.matchers, length-map c.args.matchers.now matcher_pattern) in record {
      same = c.is_matched_by.ensures.same ∙ c.loop-place.invariant.same;
      none = none_more (λ re. has_match re text) patterns place below
          (λ re. sym (c.is_matched_by.ensures.found re ∙ ap (λ res. has_match (get_or res place re) text) c.loop-place.invariant.same) ∙ c.if-is_matched_by.false)
          c.loop-place.invariant.none;
    }
