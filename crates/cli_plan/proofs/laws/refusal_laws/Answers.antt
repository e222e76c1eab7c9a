use Rattle.cli_grammar.specs.Reading.{line_in}
use Rattle.cli_plan.proofs.Apart.{line-apart, line-one}
use Rattle.cli_plan.proofs.laws.refusal_laws.Goals as goal

pub returns-clause-apart : goal.returns-clause-apart
returns-clause-apart c = λ words why sure is accepted. line-apart (line_in words) why sure is accepted

pub returns-clause-one : goal.returns-clause-one
returns-clause-one c = λ words why other sure certain is same. line-one (line_in words) why other sure certain is same
