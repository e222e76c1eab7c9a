use Rattle.writers.proofs.Alone.{texts-alone, texts-ended}
use Rattle.writers.proofs.laws.text_only_laws.Goals as goal

pub returns-clause-before : goal.returns-clause-before
returns-clause-before c = λ opts texts. texts-alone opts texts

pub returns-clause-ended : goal.returns-clause-ended
returns-clause-ended c = λ opts texts. texts-ended opts texts
