use Rattle.mlr_value.specs.Value.{tree_of}
use Rattle.mlr_record.proofs.Unflattening.{end-absent, ends-more}
use Rattle.mlr_record.proofs.unflatten.push_leaves.Goals as goal

pub push-requires : goal.push-requires
push-requires c =
    end-absent c.loop-place.into c.args.map.now c.loop-place.place c.entry.result.0.now (tree_of c.entry.result.1.now) c.entry.ensures c.loop-place.invariant c.len-place-end.ensures.distinct

pub loop-place-preserved : goal.loop-place-preserved
loop-place-preserved c =
    ends-more c.loop-place.into c.args.map.now c.loop-place.place c.entry.result.0.now (tree_of c.entry.result.1.now) c.entry.ensures c.loop-place.invariant c.push.new.self c.in_ok-push.ensures
