use Rattle.std.proofs.Common.{[], refl}
use Rattle.data_tests.proofs.events.passed.Goals as goal

pub step-requires-2 : goal.step-requires-2
step-requires-2 c = ([], c.in_ok-step.ensures.represents [] c.new-cat.ensures refl, refl)

pub step-requires-3 : goal.step-requires-3
step-requires-3 c = ([], c.in_ok-step-2.ensures.represents [] (c.in_ok-step.ensures.represents [] c.new-cat.ensures refl) refl, refl)
