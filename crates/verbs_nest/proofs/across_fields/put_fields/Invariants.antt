use Rattle.std.proofs.Common.{◌≡◌}
use Rattle.std.specs.List.{flat_map}
use Rattle.mlr_spec.specs.Pairs.{put_each}
use Rattle.mlr_record.specs.Fields.{pairs_of}
use Rattle.verbs_nest.specs.Across.{across_fields}
use Rattle.verbs_nest.specs.Nest.{in_place}
use Rattle.verbs_nest.specs.Pieces.{pieces_of}
use Rattle.verbs_nest.proofs.across_fields.put_fields.Given as goal

-- the record so far, with the remaining fields, is the whole
abbrev pub invariant-loop-field : goal.invariant-loop-field
invariant-loop-field l =
    put_each l.into (flat_map (in_place l.verb.field (across_fields l.verb.field l.verb.pair_separator (pieces_of l.verb.separator l.text))) (pairs_of l.field-iterator.rest.items))
    ≡ put_each l.fn.into (flat_map (in_place l.verb.field (across_fields l.verb.field l.verb.pair_separator (pieces_of l.verb.separator l.text))) (pairs_of l.fn.fields.items))
