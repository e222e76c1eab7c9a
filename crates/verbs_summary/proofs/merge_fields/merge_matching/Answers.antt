use Rattle.std.proofs.Common.{◌≡◌, ◌++◌, [], true, if◌then◌else◌, map, ap, sym, subst, ◌∙◌}
use Rattle.mlr_record.specs.Fields.{pairs_of}
use Rattle.mlr_spec.specs.Pairs.{are_distinct, keys_of, put_each}
use Rattle.mlr_stats.specs.Statistic.{fields_of}
use Rattle.regex.specs.Bytes.{matcher_pattern}
use Rattle.verbs_summary.specs.MergeFields.{values_matching}
use Rattle.verbs_summary.specs.Merging.{not_matching}
use Rattle.verbs_summary.proofs.Merging.{kept-distinct}
use Rattle.verbs_summary.proofs.merge_fields.merge_matching.Goals as goal

pub of_fields-made-requires : goal.of_fields-made-requires
of_fields-made-requires c =
    let patterns = map matcher_pattern c.args.matchers.now in
    let keep = c.args.options.now.keep in
    let kept = c.in_ok-merge_each.ensures.kept
    ∙ ap (λ items. pairs_of items ++ (if keep then pairs_of c.into_fields-fields.result.items else not_matching patterns (pairs_of c.into_fields-fields.result.items))) c.in_ok-kept.ensures.items
    ∙ ap (λ fields. if keep then fields else not_matching patterns fields) c.into_fields-fields.ensures.fields in
    subst (λ fields. are_distinct (keys_of fields) ≡ true) (sym kept) (kept-distinct keep patterns c.args.fields c.into_fields-fields.ensures.distinct)

pub returns-clause-made : goal.returns-clause-made
returns-clause-made c =
    let patterns = map matcher_pattern c.args.matchers.now in
    let keep = c.args.options.now.keep in
    let statistics = c.args.statistics.now in
    let kept = c.in_ok-merge_each.ensures.kept
    ∙ ap (λ items. pairs_of items ++ (if keep then pairs_of c.into_fields-fields.result.items else not_matching patterns (pairs_of c.into_fields-fields.result.items))) c.in_ok-kept.ensures.items
    ∙ ap (λ fields. if keep then fields else not_matching patterns fields) c.into_fields-fields.ensures.fields in
    c.in_ok-put_summary.ensures (values_matching patterns (pairs_of c.into_fields-fields.result.items)) (c.in_ok-merge_each.ensures.summary [] c.in_ok-summary.ensures)
    ∙ ap (λ fields. put_each fields (fields_of statistics c.as_slice.result.now (values_matching patterns (pairs_of c.into_fields-fields.result.items)))) (c.of_fields-made.ensures ∙ kept)
    ∙ ap (λ name. put_each (if keep then c.args.fields else not_matching patterns c.args.fields) (fields_of statistics name (values_matching patterns (pairs_of c.into_fields-fields.result.items)))) c.as_slice.ensures
    ∙ ap (λ fields. put_each (if keep then c.args.fields else not_matching patterns c.args.fields) (fields_of statistics c.args.options.now.output (values_matching patterns fields))) c.into_fields-fields.ensures.fields
