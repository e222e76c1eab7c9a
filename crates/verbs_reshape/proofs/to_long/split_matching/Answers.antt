use Rattle.std.proofs.Common.{◌≡◌, true, ◌++◌, map, sym, ap, ◌∙◌, subst}
use Rattle.regex.specs.Bytes.{matcher_pattern}
use Rattle.mlr_spec.specs.Pairs.{are_distinct, keys_of}
use Rattle.mlr_record.specs.Fields.{pairs_of}
use Rattle.verbs_base.proofs.Filters.{are_distinct-filter}
use Rattle.verbs_pattern.specs.Cut.{is_kept, kept_matching}
use Rattle.verbs_reshape.proofs.to_long.split_matching.Goals as goal

pub of_fields-requires : goal.of_fields-requires
of_fields-requires c =
    let patterns = map matcher_pattern c.args.matchers.now in
    let pairs = pairs_of c.into_fields.result.items in
    let made = c.in_ok-split_fields.ensures.others ∙ ap (λ items. pairs_of items ++ kept_matching patterns true pairs) c.in_ok-others.ensures.items in
    let distinct = subst (λ all. are_distinct (keys_of all) ≡ true) (sym c.into_fields.ensures.fields) c.into_fields.ensures.distinct in
    subst (λ all. are_distinct (keys_of all) ≡ true) (sym made) (are_distinct-filter (is_kept patterns true) pairs distinct)
