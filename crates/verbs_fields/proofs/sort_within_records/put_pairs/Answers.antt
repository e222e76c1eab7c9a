use Rattle.std.proofs.Common.{◌≡◌, [], ap, ◌∙◌, rules}
use Rattle.mlr_spec.specs.Pairs.{put_each}
use Rattle.mlr_spec.proofs.Flattening.{put_each-distinct}
use Rattle.mlr_record.specs.Fields.{pairs_of}
use Rattle.verbs_fields.proofs.sort_within_records.put_pairs.Goals as goal

pub loop-field-init : goal.loop-field-init
loop-field-init c =
    let pairs = pairs_of c.args.pairs.items in
    let same : c.into_iter-field-iterator.result.rest.items ≡ c.args.pairs.items = search rules in
    ap (λ items. put_each c.args.into.now (pairs_of items)) same
    ∙ ap (λ x. put_each x pairs) c.requires.empty
    ∙ put_each-distinct [] pairs c.requires.distinct
