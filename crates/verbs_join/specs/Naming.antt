-- The prefixes that names get.
use Rattle.std.specs.Prelude.{ℕ, if◌then◌else◌, List, []}
use Rattle.mlr_event.specs.Reading.{is_among}
use Rattle.mlr_spec.specs.Pairs.{keys_of}
use Rattle.verbs_base.specs.Choosing.{dropped}
use Rattle.verbs_join.specs.declared.naming.Naming.{Naming}
use Rattle.verbs_join.specs.declared.naming.Naming.TheVariants.{Plain, Few, Many}

abbrev pub prefix_by : Naming → List ℕ → List ℕ
prefix_by Plain name = []
prefix_by (Few prefix join other) name = if is_among (keys_of (dropped join.now other.now)) name then prefix.now else []
prefix_by (Many prefix names) name = if is_among names name then prefix.now else []
