use Rattle.std.proofs.Common.{sym}
use Rattle.verbs_base.proofs.Changing.{field-stays}
use Rattle.verbs_base.proofs.change.change_field.Goals as goal

pub returns-else-takes-clause-changed : goal.returns-else-takes-clause-changed
returns-else-takes-clause-changed g c pair =
    field-stays (g.C.Change.takes c.args.change.now) (g.C.Change.image c.args.change.now) c.args.fields.now c.args.place c.name_at.result.now c.name_at.ensures.0 c.name_at.ensures.1
    (sym c.if-takes.ensures) pair
