use Rattle.shape_laws.proofs.Nested.{none-given, rows-back}
use Rattle.shape_laws.proofs.nest.nest_law.Goals as goal

pub returns-clause-before_end : goal.returns-clause-before_end
returns-clause-before_end c = λ options rows have. none-given options rows have

pub returns-clause-at_end : goal.returns-clause-at_end
returns-clause-at_end c = λ options rows ctx have apart. rows-back options rows ctx have apart
