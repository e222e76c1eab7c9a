use Rattle.outlet.proofs.Growing.{out-grows}
use Rattle.outlet.proofs.laws.outlet_laws.Goals as goal

pub returns : goal.returns
returns c = out-grows c.growth_law.ensures
