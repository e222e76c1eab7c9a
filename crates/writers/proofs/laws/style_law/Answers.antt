use Rattle.writers.proofs.Heeding.{same-style}
use Rattle.writers.proofs.laws.style_law.Goals as goal

pub returns : goal.returns
returns c = λ opts other bodies ended same. same-style opts other bodies ended same
