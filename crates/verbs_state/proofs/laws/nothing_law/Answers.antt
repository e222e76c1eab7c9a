use Rattle.std.proofs.Common.{[]}
use Rattle.verbs_state.proofs.Whole.{given-nothing}
use Rattle.verbs_state.proofs.laws.nothing_law.Goals as goal

pub returns : goal.returns
returns c = λ given. given-nothing [] given
