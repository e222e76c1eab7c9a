use Rattle.mlr_json.proofs.Stable.{stays-found}
use Rattle.mlr_json.proofs.laws.found_stays.Goals as goal

pub returns : goal.returns
returns c = stays-found
