use Rattle.std.proofs.Common.{[]}
use Rattle.read_files.proofs.Taking.{following-first}
use Rattle.read_files.proofs.tests.read.Goals as goal

pub turn_all-last-requires : goal.turn_all-last-requires
turn_all-last-requires c = (_, _, _, [], c.in_ok-reader.ensures, following-first _ _ _)
