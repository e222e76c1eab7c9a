use Rattle.std.proofs.Common.{◌≡◌, ◌∷◌, []}
use Rattle.std.specs.List.{flat_map}
use Rattle.mlr_spec.specs.JsonGrammar.{text_value}
use Rattle.mlr_spec.specs.Pairs.{put_each}
use Rattle.mlr_record.specs.Fields.{pairs_of}
use Rattle.verbs_nest.specs.Nest.{in_place}
use Rattle.verbs_nest.proofs.across_records.put_fields.Given as goal

-- the record so far, with the remaining fields, is the whole
abbrev pub invariant-loop-other : goal.invariant-loop-other
invariant-loop-other l =
    put_each l.into (flat_map (in_place l.field ((l.name, text_value l.text) ∷ [])) (pairs_of l.other-iterator.rest.items))
    ≡ put_each l.fn.into (flat_map (in_place l.field ((l.name, text_value l.text) ∷ [])) (pairs_of l.fn.fields.items))
