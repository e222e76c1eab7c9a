use Rattle.verbs_laws.proofs.FirstMet.{met-once}
use Rattle.verbs_laws.proofs.stats1.stats1_law.Goals as goal

pub returns : goal.returns
returns c = λ names given distinct. met-once names distinct given
