-- The verb `reorder`.
use Rattle.std.specs.Prelude.{if◌then◌else◌, ◌++◌}
use Rattle.verbs_base.specs.Choosing.{picked, dropped}
use Rattle.verbs_base.specs.Records.{Fields}
use Rattle.verbs_fields.specs.declared.reorder.Reorder.{Reorder}

-- the named fields, in the order of the names, before or after the others
abbrev pub reorder : Reorder → Fields → Fields
reorder verb fields =
    if verb.last then dropped verb.names fields ++ picked verb.names fields else picked verb.names fields ++ dropped verb.names fields
