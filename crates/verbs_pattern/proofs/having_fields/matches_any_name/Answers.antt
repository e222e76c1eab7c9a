use Rattle.std.proofs.Common.{sym, ap, ◌∙◌}
use Rattle.regex.specs.Bytes.{matcher_pattern}
use Rattle.mlr_value.specs.Value.{tree_of}
use Rattle.verbs_pattern.specs.Matching.{has_match}
use Rattle.verbs_pattern.proofs.Walks.{none_so_far, one_passes}
use Rattle.verbs_pattern.proofs.having_fields.matches_any_name.Goals as goal

pub returns-then-is_match-clause-found : goal.returns-then-is_match-clause-found
returns-then-is_match-clause-found c =
    let name = c.entry.result.0.now in
    let asked = sym (c.is_match.ensures.found ∙ ap (λ re. has_match re name) c.loop-place.invariant.same) in
    sym (one_passes (λ pair. has_match (matcher_pattern c.args.matcher.now) pair.0) c.args.fields.now c.loop-place.place (name, tree_of c.entry.result.1.now) c.entry.ensures
    (asked ∙ c.if-is_match.true))

pub loop-place-preserved : goal.loop-place-preserved
loop-place-preserved c =
    let name = c.entry.result.0.now in
    let asked = sym (c.is_match.ensures.found ∙ ap (λ re. has_match re name) c.loop-place.invariant.same) in record {
      same = c.is_match.ensures.same ∙ c.loop-place.invariant.same;
      none = none_so_far (λ pair. has_match (matcher_pattern c.args.matcher.now) pair.0) c.args.fields.now c.loop-place.place (name, tree_of c.entry.result.1.now) c.entry.ensures
          (asked ∙ c.if-is_match.false) c.loop-place.invariant.none;
    }
