use Rattle.std.proofs.Common.{ap, length}
use Rattle.text_columns.proofs.Coded.{lines-empty, lines-none}
use Rattle.text_columns.proofs.chunk.Chunk.new.Goals as goal

pub invariant_of-result : goal.invariant_of-result
invariant_of-result c = lines-empty c.new.result.items (ap length c.new.ensures.items)

pub returns : goal.returns
returns c = lines-none c.new.result.items (ap length c.new.ensures.items)
