use Rattle.std.proofs.Common.{◌≡◌, drop}
use Rattle.mlr_record.specs.Fields.{pairs_of}
use Rattle.mlr_spec.specs.Pairs.{put_each}
use Rattle.verbs_base.specs.Choosing.{dropped}
use Rattle.verbs_join.specs.Join.{prefixed}
use Rattle.verbs_join.specs.Naming.{prefix_by}
use Rattle.verbs_join.proofs.pairing.put_others.Given as goal

-- the record so far, with the remaining fields, is the whole
abbrev pub invariant-loop-field : goal.invariant-loop-field
invariant-loop-field l =
    put_each l.into (prefixed (prefix_by l.naming) (dropped l.join (pairs_of (drop l.field-index l.field-items))))
    ≡ put_each l.fn.into (prefixed (prefix_by l.naming) (dropped l.join (pairs_of l.field-items)))
