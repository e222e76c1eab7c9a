use Rattle.std.proofs.Common.{◌≡◌, false, take}
use Rattle.std.specs.List.{list_any}
use Rattle.mlr_world.specs.MemoryOutputs.{is_of}
use Rattle.mlr_world.proofs.memory_outputs.place_of.Given as goal

abbrev pub invariant-loop-place : goal.invariant-loop-place
invariant-loop-place l = list_any (is_of l.target) (take l.place l.entries) ≡ false
