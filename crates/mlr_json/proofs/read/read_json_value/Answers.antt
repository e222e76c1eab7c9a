use Rattle.mlr_json.proofs.Turned.{answer-read, answer-only}
use Rattle.mlr_json.proofs.read.read_json_value.Goals as goal

pub returns-in-Ok-clause-read : goal.returns-in-Ok-clause-read
returns-in-Ok-clause-read c = answer-read c.args.text.now c.in-Ok.read c.in-Ok.ensures

pub returns-in-Ok-clause-only : goal.returns-in-Ok-clause-only
returns-in-Ok-clause-only c = answer-only c.args.text.now c.in-Ok.read c.in-Ok.ensures
