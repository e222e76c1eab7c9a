use Rattle.std.proofs.Common.{◌≡◌, [], length, ap, ◌∙◌, arith}
use Rattle.std.proofs.lemmas.List.{length-map}
use Rattle.std.proofs.lemmas.Slice.Zip.{firsts-zip}
use Rattle.mlr_spec.specs.Pairs.{are_distinct, keys_of}
use Rattle.mlr_record.specs.Fields.{pairs_of}
use Rattle.mlr_event.specs.Reading.{distinct_names}
use Rattle.mlr_event.proofs.Distinct.{are_distinct-names, length-distinct}
use Rattle.read_csv.specs.OpenRow.{value_in, values_in}
use Rattle.read_csv.proofs.records.named_record.Goals as goal

pub of_fields-requires : goal.of_fields-requires
of_fields-requires c =
    let names = c.args.names.now in
    let keys = distinct_names names in
    let items = c.args.fields.now.items in
    let count : length (values_in items) ≡ length keys = omega (arith, length-map items value_in, length-distinct [] names, c.requires.full, c.args.fields.now.ok) in
    ap (λ pairs. are_distinct (keys_of pairs)) (ap (λ v. pairs_of v.items) c.replace.ensures.value ∙ c.requires.named)
    ∙ ap are_distinct (firsts-zip keys (values_in items) count)
    ∙ are_distinct-names names (omega (arith, c.requires.few))
