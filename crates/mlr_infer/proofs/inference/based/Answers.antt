use Rattle.std.proofs.Common.{rules}
use Rattle.mlr_infer.proofs.Rows.{magnitude_of-no_base}
use Rattle.mlr_infer.proofs.inference.based.Goals as goal

pub returns-in_default : goal.returns-in_default
returns-in_default c = magnitude_of-no_base c.args.text.now (search rules)

pub returns-in_default-2 : goal.returns-in_default-2
returns-in_default-2 c = magnitude_of-no_base c.args.text.now (search rules)

pub returns-in_default-3 : goal.returns-in_default-3
returns-in_default-3 c = magnitude_of-no_base c.args.text.now (search rules)
