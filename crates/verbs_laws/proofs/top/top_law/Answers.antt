use Rattle.verbs_laws.proofs.SortedInts.{rows-sorted}
use Rattle.verbs_laws.proofs.top.top_law.Goals as goal

pub returns : goal.returns
returns c = rows-sorted
