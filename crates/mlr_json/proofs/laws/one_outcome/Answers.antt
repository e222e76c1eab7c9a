use Rattle.mlr_json.proofs.GrammarAnswer.{has-one-outcome}
use Rattle.mlr_json.proofs.laws.one_outcome.Goals as goal

pub returns : goal.returns
returns c = has-one-outcome
