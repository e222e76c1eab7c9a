use Rattle.std.proofs.Common.{◌≡◌}
use Rattle.std.specs.List.{flat_map}
use Rattle.mlr_event.specs.Reading.{is_among}
use Rattle.mlr_spec.specs.Pairs.{put_each}
use Rattle.mlr_record.specs.Fields.{pairs_of}
use Rattle.verbs_values.specs.Flatten.{flattened_field}
use Rattle.verbs_values.proofs.flatten.put_flattened.Given as goal

abbrev pub invariant-loop-field : goal.invariant-loop-field
invariant-loop-field l = put_each l.into (flat_map (flattened_field l.separator (is_among l.names)) (pairs_of l.field-iterator.rest.items)) ≡ put_each l.fn.into (flat_map (flattened_field l.separator (is_among l.names)) (pairs_of l.fn.fields.items))
