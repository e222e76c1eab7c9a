-- Fields renamed by their names.
use Rattle.std.specs.Prelude.{List, [], ◌∷◌}
use Rattle.mlr_spec.specs.Pairs.{rename_at}
use Rattle.verbs_base.specs.Records.{Fields}
use Rattle.verbs_fields.specs.declared.rename_names.Renaming.{Renaming}

-- the fields renamed, one renaming after another
abbrev pub renamed : List Renaming → Fields → Fields
renamed [] fields = fields
renamed (renaming ∷ renamings) fields = renamed renamings (rename_at renaming.old renaming.new fields)
