use Rattle.std.proofs.Common.{◌≡◌, drop}
use Rattle.std.specs.List.{flat_map}
use Rattle.mlr_spec.specs.Pairs.{put_each}
use Rattle.mlr_spec.specs.Flatten.{leaves_of, flat}
use Rattle.mlr_record.proofs.flatten.put_fields.Given as goal

abbrev pub invariant-loop-place : goal.invariant-loop-place
invariant-loop-place l = put_each l.into (flat_map (λ pair. leaves_of l.separator pair.0 pair.1) (drop l.place l.from)) ≡ flat l.separator l.from
