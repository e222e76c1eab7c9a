use Rattle.std.proofs.Common.{◌++◌, ◌∷◌, [], if◌then◌else◌, map, ap, sym, subst, ◌∙◌, append_assoc}
use Rattle.mlr_record.specs.Fields.{pairs_of}
use Rattle.mlr_stats.specs.Kept.{Summarizes}
use Rattle.regex.specs.Bytes.{matcher_pattern}
use Rattle.verbs_summary.specs.MergeFields.{values_matching}
use Rattle.verbs_summary.specs.Merging.{not_matching}
use Rattle.verbs_summary.proofs.Merging.{kept-more, matching-more}
use Rattle.verbs_summary.proofs.merge_fields.merge_each.Goals as goal

pub loop-field-preserved : goal.loop-field-preserved
loop-field-preserved c =
    let loop = c.loop-field in
    let patterns = map matcher_pattern c.args.matchers.now in
    let keep = c.args.keep in
    let first = pairs_of (c.in-Some.field ∷ []) in
    let rest = pairs_of c.next.new.self.rest.items in
    let split = c.in-Some.ensures.steps.0 in
    let own = values_matching patterns first in
    record {
      same = c.in_ok-merge_field.ensures.same ∙ loop.invariant.same;
      summary = λ values keeps.
          let old = loop.invariant.summary values keeps in (
            old.0 ++ own,
            append_assoc old.0 own (values_matching patterns rest)
                ∙ ap (λ more. old.0 ++ more) (sym (matching-more patterns first rest))
                ∙ ap (λ fields. old.0 ++ values_matching patterns (pairs_of fields)) (sym split)
                ∙ old.1,
            subst (λ all. Summarizes c.args.statistics.now all c.merge_field.new.summary) (append_assoc values old.0 own)
                (subst (λ ps. Summarizes c.args.statistics.now ((values ++ old.0) ++ values_matching ps first) c.merge_field.new.summary) loop.invariant.same
                (c.in_ok-merge_field.ensures.summary (values ++ old.0) old.2)),
          );
      kept =
          ap (λ kept. kept ++ (if keep then rest else not_matching patterns rest))
          (c.in_ok-merge_field.ensures.kept ∙ ap (λ ps. pairs_of loop.kept.items ++ (if keep then first else not_matching ps first)) loop.invariant.same)
          ∙ kept-more keep patterns (pairs_of loop.kept.items) first rest
          ∙ ap (λ fields. pairs_of loop.kept.items ++ (if keep then pairs_of fields else not_matching patterns (pairs_of fields))) (sym split)
          ∙ loop.invariant.kept;
    }
