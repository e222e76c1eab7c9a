use Rattle.std.proofs.Common.{ap, ◌∙◌}
use Rattle.std.specs.Option.{is_some}
use Rattle.mlr_event.proofs.Putting.{place_at-among}
use Rattle.mlr_event.proofs.rows.RecordTakenNames.has.Goals as goal

pub returns : goal.returns
returns c = c.is_some.ensures ∙ ap is_some c.position.ensures ∙ place_at-among c.args.name.now c.args.self.now
