use Rattle.std.proofs.Common.{◌≡◌, take}
use Rattle.std.specs.Prelude.{map}
use Rattle.mlr_event.specs.declared.names.InputName.TheVariants.{File}
use Rattle.cli_plan.proofs.inputs.files_of.Given as goal

-- the files so far
abbrev pub invariant-loop-name : goal.invariant-loop-name
invariant-loop-name l = l.files ≡ map File (take l.name-index l.names)
