use Rattle.std.proofs.Common.{ap, sym, ◌∙◌}
use Rattle.std.specs.List.{flat_map}
use Rattle.mlr_event.specs.Reading.{is_among}
use Rattle.mlr_spec.specs.Pairs.{put_each}
use Rattle.mlr_record.specs.Fields.{pair_of, pairs_of}
use Rattle.verbs_values.specs.Flatten.{flattened_field}
use Rattle.verbs_values.proofs.Flattening.{flattened-more}
use Rattle.verbs_values.proofs.flatten.put_flattened.Goals as goal

pub loop-field-preserved : goal.loop-field-preserved
loop-field-preserved c =
    flattened-more c.args.separator.now (is_among c.args.names.now) (pair_of c.in-Some.field) (pairs_of c.next.new.self.rest.items) c.loop-field.into c.put_field.new.into c.in_ok-put_field.ensures
    ∙ sym (ap (λ fields. put_each c.loop-field.into (flat_map (flattened_field c.args.separator.now (is_among c.args.names.now)) (pairs_of fields))) c.in-Some.ensures.steps.0)
    ∙ c.loop-field.invariant
