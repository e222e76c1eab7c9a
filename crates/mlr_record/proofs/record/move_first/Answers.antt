use Rattle.mlr_record.proofs.Edits.{moved-first}
use Rattle.mlr_record.proofs.record.move_first.Goals as goal

pub returns-clause-moved : goal.returns-clause-moved
returns-clause-moved c field = moved-first c.args.fields.now c.rotate_right.new.self c.args.place field c.requires c.rotate_right.ensures.after
