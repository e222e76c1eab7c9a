use Rattle.std.proofs.Common.{[], ap}
use Rattle.verbs_base.specs.Records.{given_by}
use Rattle.verbs_state.specs.Cat.{cat}
use Rattle.verbs_state.specs.Ungrouped.{plain-gives}
use Rattle.verbs_state.proofs.Whole.{given-same}
use Rattle.verbs_state.proofs.laws.cat_law.Goals as goal

pub returns-clause-plain : goal.returns-clause-plain
returns-clause-plain c = λ options given plain. given-same (cat options) (plain-gives options plain) [] given

pub returns-clause-twice : goal.returns-clause-twice
returns-clause-twice c = λ options given plain. ap (given_by (cat options)) (given-same (cat options) (plain-gives options plain) [] given)
