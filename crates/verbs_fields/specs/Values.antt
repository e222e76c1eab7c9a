-- The values of a record.
use Rattle.std.specs.Prelude.{List, map}
use Rattle.mlr_spec.specs.Tree.{Tree}
use Rattle.verbs_base.specs.Records.{Fields}

abbrev pub values_of : Fields → List Tree
values_of fields = map (λ pair. pair.1) fields
