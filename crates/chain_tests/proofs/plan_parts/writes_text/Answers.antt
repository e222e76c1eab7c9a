use Rattle.std.proofs.Common.{[]}
use Rattle.chain_tests.proofs.plan_parts.writes_text.Goals as goal

pub take-requires : goal.take-requires
take-requires c = (_, [], c.in_ok-outlet.ensures)
