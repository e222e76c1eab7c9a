use Rattle.verbs_values.proofs.Decoded.{decoded-value, decoded-none}
use Rattle.verbs_values.proofs.laws.decoded_law.Goals as goal

pub returns-clause-value : goal.returns-clause-value
returns-clause-value c = decoded-value

pub returns-clause-none : goal.returns-clause-none
returns-clause-none c = decoded-none
