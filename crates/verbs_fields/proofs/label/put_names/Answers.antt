use Rattle.std.proofs.Common.{◌≡◌, length, min, ap, ◌∙◌, arith}
use Rattle.std.proofs.lemmas.List.{length-map}
use Rattle.mlr_record.specs.Fields.{pairs_of, pair_of}
use Rattle.verbs_fields.proofs.Labels.{named_to, named_to-step, named_to-end}
use Rattle.verbs_fields.proofs.label.put_names.Goals as goal

pub loop-place-preserved : goal.loop-place-preserved
loop-place-preserved c =
    let long = length-map c.args.fields.now pair_of in
    named_to-step c.args.names.now c.loop-place.place (pairs_of c.args.fields.now) c.loop-place.fields c.in_ok-fields.field-0 c.index-names-place.result c.index-fields-place.result
    (omega arith) (omega arith) c.loop-place.invariant (c.in_ok-fields.ensures.same ∙ c.index-names-place.is)

pub returns : goal.returns
returns c =
    let pairs = pairs_of c.args.fields.now in
    let long = length-map c.args.fields.now pair_of in
    let ended : c.loop-place.place ≡ min (length c.args.names.now) (length pairs) = omega arith in
    c.loop-place.invariant ∙ ap (λ n. named_to c.args.names.now n pairs) ended ∙ named_to-end c.args.names.now pairs
