use Rattle.std.proofs.Common.{◌≡◌, true, ◌++◌, map, sym, ap, ◌∙◌, subst}
use Rattle.regex.specs.Bytes.{matcher_pattern}
use Rattle.mlr_spec.specs.Pairs.{are_distinct, keys_of}
use Rattle.mlr_record.specs.Fields.{pairs_of}
use Rattle.verbs_pattern.specs.Cut.{is_kept, kept_matching}
use Rattle.verbs_pattern.proofs.Kept.{distinct-kept}
use Rattle.verbs_pattern.proofs.cut.keep_matching.Goals as goal

pub of_fields-requires : goal.of_fields-requires
of_fields-requires c =
    let patterns = map matcher_pattern c.args.matchers.now in
    let pairs = pairs_of c.into_fields-fields.result.items in
    let made = c.in_ok-keep_fields.ensures.kept ∙ ap (λ items. pairs_of items ++ kept_matching patterns c.args.complement pairs) c.in_ok-kept.ensures.items in
    let distinct = subst (λ all. are_distinct (keys_of all) ≡ true) (sym c.into_fields-fields.ensures.fields) c.into_fields-fields.ensures.distinct in
    subst (λ all. are_distinct (keys_of all) ≡ true) (sym made) (distinct-kept (is_kept patterns c.args.complement) pairs distinct)
