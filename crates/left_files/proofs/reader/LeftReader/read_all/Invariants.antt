use Rattle.std.proofs.Common.{◌≡◌, List, []}
use Rattle.mlr_event.specs.declared.names.InputName.{InputName}
use Rattle.mlr_world.specs.Taken.{Take}
use Rattle.read_files.specs.Takes.{After}
use Rattle.left_files.specs.declared.left_file.LeftFile.{LeftFile}
use Rattle.left_files.specs.Represents.{Represents, left}
use Rattle.left_files.proofs.reader.LeftReader.read_all.Given as goal

-- no call has failed, and the reader continues after what was taken
abbrev pub invariant-loop-over : goal.invariant-loop-over
invariant-loop-over g l =
    (g.I.Inputs.contents l.inputs ≡ g.I.Inputs.contents l.fn.inputs) ×
    ((name : InputName) → g.I.Inputs.faults l.inputs name ≡ g.I.Inputs.faults l.fn.inputs name) ×
    ((files : List LeftFile) → Represents files [] l.fn.self
    → (given : List Take) × Represents files given l.self × After (g.I.Inputs.taken l.fn.inputs) given (g.I.Inputs.contents l.inputs) (g.I.Inputs.taken l.inputs) (g.I.Inputs.open_entry l.inputs))

-- what there is left to take
abbrev pub decreases-loop-over : goal.decreases-loop-over
decreases-loop-over g l = left l.self
