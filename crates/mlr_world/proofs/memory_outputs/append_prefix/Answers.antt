use Rattle.mlr_world.proofs.MemoryOutputs.{writes_prefix}
use Rattle.mlr_world.proofs.memory_outputs.append_prefix.Goals as goal

pub returns-then-is_short-clause-bytes : goal.returns-then-is_short-clause-bytes
returns-then-is_short-clause-bytes c =
    writes_prefix c.args.bytes.now c.min-count.result c.args.text.now.items c.extend_from_slice.new.self.items c.in-Ok.ensures.items
