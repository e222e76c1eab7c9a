use Rattle.std.proofs.Common.{[], ap, arith}
use Rattle.std.specs.Prelude.{is_none}
use Rattle.verbs_state.proofs.Whole.{all-given, first-given}
use Rattle.verbs_state.proofs.laws.head_law.Goals as goal

pub returns-clause-first : goal.returns-clause-first
returns-clause-first c = λ options given ungrouped few. first-given options (ap is_none ungrouped) options.count [] given few (omega arith)

pub returns-clause-all : goal.returns-clause-all
returns-clause-all c = λ options given ungrouped many. all-given options (ap is_none ungrouped) given many
