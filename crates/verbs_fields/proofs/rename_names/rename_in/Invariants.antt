use Rattle.std.proofs.Common.{◌≡◌, drop}
use Rattle.verbs_fields.specs.RenameNames.{renamed}
use Rattle.verbs_fields.proofs.rename_names.rename_in.Given as goal

-- the remaining renamings of the fields so far give what all renamings give
abbrev pub invariant-loop-renaming : goal.invariant-loop-renaming
invariant-loop-renaming l = renamed (drop l.renaming-index l.renamings) l.fields ≡ renamed l.renamings l.fn.fields
