use Rattle.std.proofs.Common.{◌≡◌, take, All}
use Rattle.mlr_world.specs.MemoryOutputs.{pairs_of, HasRoom}
use Rattle.mlr_world.proofs.memory_outputs.given_texts.Given as goal

abbrev pub invariant-loop-pair : goal.invariant-loop-pair
invariant-loop-pair l = (pairs_of l.entries.items ≡ take l.pair-index l.given) × All (HasRoom l.room) l.entries.items
