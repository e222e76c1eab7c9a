use Rattle.std.proofs.Common.{[], refl}
use Rattle.data_tests.proofs.events.made_of_three.Goals as goal

pub step-requires-2 : goal.step-requires-2
step-requires-2 g c = (_, c.in_ok-step.ensures.represents [] c.requires refl, refl)

pub step-requires-3 : goal.step-requires-3
step-requires-3 g c = (_, c.in_ok-step-2.ensures.represents _ (c.in_ok-step.ensures.represents [] c.requires refl) refl, refl)

pub step-requires-4 : goal.step-requires-4
step-requires-4 g c = (_, c.in_ok-step-3.ensures.represents _ (c.in_ok-step-2.ensures.represents _ (c.in_ok-step.ensures.represents [] c.requires refl) refl) refl, refl)

pub step-requires-5 : goal.step-requires-5
step-requires-5 g c = (_, c.in_ok-step-4.ensures.represents _ (c.in_ok-step-3.ensures.represents _ (c.in_ok-step-2.ensures.represents _ (c.in_ok-step.ensures.represents [] c.requires refl) refl) refl) refl, refl)
