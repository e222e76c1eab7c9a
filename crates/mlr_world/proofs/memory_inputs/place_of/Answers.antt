use Rattle.mlr_world.specs.MemoryTexts.{same_input}
use Rattle.mlr_world.proofs.MemoryTexts.{same_input-from, same_input-false, is_first_place, list_any-goes_on, false_test}
use Rattle.mlr_world.proofs.memory_inputs.place_of.Goals as goal

pub loop-place-preserved : goal.loop-place-preserved
loop-place-preserved c =
    let entry = c.index-contents-place.result in
    let name = c.args.name.now in
    list_any-goes_on (λ entry. same_input entry.0 name) c.args.contents.now c.loop-place.place entry c.loop-place-test.true c.index-contents-place.is c.loop-place.invariant
    (same_input-false entry.0 name (λ e. false_test _ c.if-is.false (c.is.ensures.1 e)))

pub returns-then-is : goal.returns-then-is
returns-then-is c =
    let entry = c.index-contents-place.result in
    let name = c.args.name.now in
    is_first_place (λ entry. same_input entry.0 name) c.args.contents.now c.loop-place.place entry c.loop-place-test.true c.index-contents-place.is c.loop-place.invariant
    (same_input-from entry.0 name (c.is.ensures.0 c.if-is.true))
