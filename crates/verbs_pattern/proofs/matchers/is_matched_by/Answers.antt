use Rattle.std.proofs.Common.{sym, ap, ◌∙◌}
use Rattle.regex.specs.Bytes.{matcher_pattern}
use Rattle.regex.proofs.SetLemmas.{patterns_stay}
use Rattle.verbs_pattern.proofs.matchers.is_matched_by.Goals as goal

pub returns-clause-same : goal.returns-clause-same
returns-clause-same c =
    patterns_stay matcher_pattern c.args.matchers.now c.args.place c.index-matchers-place.result c.requires c.index-matchers-place.is c.is_match.new.self
    (c.is_match.ensures.same ∙ ap matcher_pattern (sym c.index-matchers-place.is))
