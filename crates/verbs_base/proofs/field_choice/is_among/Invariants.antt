use Rattle.std.proofs.Common.{◌≡◌, false, take}
use Rattle.mlr_event.specs.Reading.{is_among}
use Rattle.verbs_base.proofs.field_choice.is_among.Given as goal

abbrev pub invariant-loop-other : goal.invariant-loop-other
invariant-loop-other l = is_among (take l.other-index l.names) l.name ≡ false
