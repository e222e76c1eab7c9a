use Rattle.std.proofs.Common.{refl}
use Rattle.chain_tests.proofs.plan_parts.begun.Goals as goal

pub begin-requires : goal.begin-requires
begin-requires c = (_, c.in_ok-verb.ensures _ refl)
