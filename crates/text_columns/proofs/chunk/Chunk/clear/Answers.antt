use Rattle.std.proofs.Common.{ap, length}
use Rattle.text_columns.proofs.Coded.{lines-empty, lines-none}
use Rattle.text_columns.proofs.chunk.Chunk.clear.Goals as goal

pub invariant_of-self : goal.invariant_of-self
invariant_of-self c = lines-empty c.clear.new.self.items (ap length c.clear.ensures.items)

pub returns : goal.returns
returns c = lines-none c.clear.new.self.items (ap length c.clear.ensures.items)
