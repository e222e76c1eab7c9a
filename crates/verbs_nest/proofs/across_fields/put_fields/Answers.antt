use Rattle.std.proofs.Common.{ap, sym, ◌∙◌}
use Rattle.std.specs.List.{flat_map}
use Rattle.mlr_record.specs.Fields.{pair_of, pairs_of}
use Rattle.mlr_spec.specs.Pairs.{put_each}
use Rattle.mlr_spec.proofs.Flattening.{put_each-append}
use Rattle.verbs_base.specs.Records.{Fields}
use Rattle.verbs_nest.specs.Across.{across_fields}
use Rattle.verbs_nest.specs.Nest.{in_place}
use Rattle.verbs_nest.specs.Pieces.{pieces_of}
use Rattle.verbs_nest.proofs.across_fields.put_fields.Goals as goal

pub loop-field-preserved : goal.loop-field-preserved
loop-field-preserved c =
    let verb = c.args.verb.now in
    let made : Fields = across_fields verb.field verb.pair_separator (pieces_of verb.separator c.args.text.now) in
    let rest : Fields = flat_map (in_place verb.field made) (pairs_of c.next.new.self.rest.items) in
    ap (λ into. put_each into rest) c.in_ok-put_place.ensures
    ∙ sym (put_each-append c.loop-field.into (in_place verb.field made (pair_of c.in-Some.field)) rest)
    ∙ ap (λ fields. put_each c.loop-field.into (flat_map (in_place verb.field made) (pairs_of fields))) (sym c.in-Some.ensures.steps.0)
    ∙ c.loop-field.invariant
