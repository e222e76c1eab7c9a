use Rattle.std.proofs.Common.{List, Option}
use Rattle.mlr_event.specs.declared.names.InputName.{InputName as SpecName}
use Rattle.mlr_event.specs.declared.options.ReadOpts.{ReadOpts as Options}
use Rattle.mlr_world.specs.Taken.{Take}
use Rattle.read_files.specs.Takes.{After}
use Rattle.read_files.specs.Represents.{Represents}
use Rattle.read_files.proofs.tests.turn_all.Given as goal

-- the reader continues after what was taken
abbrev pub invariant-loop : goal.invariant-loop
invariant-loop g l = (opts : Options) × (names : List SpecName) × (before : Option (List Take)) × (given : List Take) × Represents opts names given l.reader
    × After before given (g.I.Inputs.contents l.inputs) (g.I.Inputs.taken l.inputs) (g.I.Inputs.open_entry l.inputs)
