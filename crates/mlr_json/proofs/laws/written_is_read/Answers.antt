use Rattle.mlr_json.proofs.WrittenLaw.{written-is-read}
use Rattle.mlr_json.proofs.laws.written_is_read.Goals as goal

pub returns : goal.returns
returns c = written-is-read
