use Rattle.mlr_world.specs.MemoryOutputs.{is_of}
use Rattle.mlr_world.proofs.MemoryTexts.{same_target-false, list_any-goes_on, false_test}
use Rattle.mlr_world.proofs.memory_outputs.place_of.Goals as goal

pub loop-place-preserved : goal.loop-place-preserved
loop-place-preserved c =
    let entry = c.index-entries-place.result in
    let target = c.args.target.now in
    list_any-goes_on (is_of target) c.args.entries.now c.loop-place.place entry c.loop-place-test.true c.index-entries-place.is c.loop-place.invariant
    (same_target-false entry.target target (λ e. false_test _ c.if-is.false (c.is.ensures.1 e)))
