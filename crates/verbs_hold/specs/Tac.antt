-- `tac`: the records backwards.
use Rattle.std.specs.Prelude.{reverse}
use Rattle.verbs_base.specs.Records.{RecordVerb}
use Rattle.group_state.specs.AtEnd.{at_end}

abbrev pub tac : RecordVerb
tac = at_end (λ rows ctx. reverse rows)
