use Rattle.verbs_pattern.proofs.Kept.{kept-apart}
use Rattle.verbs_pattern.proofs.laws.cut_law.Goals as goal

pub returns : goal.returns
returns c = λ which fields. kept-apart which fields
