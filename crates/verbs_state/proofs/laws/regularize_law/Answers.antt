use Rattle.std.proofs.Common.{[]}
use Rattle.verbs_state.proofs.Rearranged.{given-rearranged}
use Rattle.verbs_state.proofs.laws.regularize_law.Goals as goal

pub returns : goal.returns
returns c = given-rearranged []
