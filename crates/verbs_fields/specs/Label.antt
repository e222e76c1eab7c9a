-- The verb `label`.
use Rattle.std.specs.Prelude.{◌≡◌, true, ◌++◌, length, drop}
use Rattle.std.specs.List.{zip}
use Rattle.mlr_spec.specs.Pairs.{are_distinct}
use Rattle.verbs_base.specs.Choosing.{dropped}
use Rattle.verbs_base.specs.Records.{Fields}
use Rattle.verbs_fields.specs.declared.label.Label.{Label}
use Rattle.verbs_fields.specs.Values.{values_of}

-- The first fields get the given names, one each. Of the other fields those are kept that have none of these
-- names.
abbrev pub label : Label → Fields → Fields
label verb fields = zip verb.names (values_of fields) ++ dropped verb.names (drop (length verb.names) fields)

-- the names are distinct
abbrev pub IsSoundLabel : Label → Type 0
IsSoundLabel verb = are_distinct verb.names ≡ true
