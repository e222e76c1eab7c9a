-- `nothing`: no records.
use Rattle.std.specs.Prelude.{List, []}
use Rattle.verbs_base.specs.Records.{Fields}

abbrev pub nothing : Fields → List Fields
nothing fields = []
