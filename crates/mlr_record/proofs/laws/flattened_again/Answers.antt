use Rattle.mlr_record.proofs.RoundTrip.{flat-again}
use Rattle.mlr_record.proofs.laws.flattened_again.Goals as goal

pub returns : goal.returns
returns c = flat-again
