use Rattle.verbs_hold.proofs.WholeLists.{backwards-twice}
use Rattle.verbs_hold.proofs.laws.tac_law.Goals as goal

pub returns : goal.returns
returns c = λ rows ctx end. backwards-twice rows
