use Rattle.std.proofs.Common.{◌≡◌, false, take}
use Rattle.std.specs.List.{list_any}
use Rattle.mlr_world.specs.MemoryTexts.{same_input}
use Rattle.mlr_world.proofs.memory_inputs.place_of.Given as goal

abbrev pub invariant-loop-place : goal.invariant-loop-place
invariant-loop-place l = list_any (λ entry. same_input entry.0 l.name) (take l.place l.contents) ≡ false
