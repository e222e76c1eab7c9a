-- How far the readers, the outlet and the run of a plan have come.
use Rattle.std.specs.Prelude.{◌≡◌, List, ◌∷◌}
use Rattle.mlr_event.specs.declared.event.Event.{Event}
use Rattle.mlr_world.specs.Taken.{Take}
use Rattle.writers.specs.declared.options.WriteOpts.{WriteOpts}
use Rattle.outlet.specs.Represents as outlet
use Rattle.serial_core.specs.Command.{Command}
use Rattle.serial_core.specs.Reading.{ReaderRepresents}
use Rattle.serial_core.specs.Represents.{SerialRepresents}
use Rattle.left_files.specs.Represents as left
use Rattle.chain_core.specs.declared.left_reader.LeftReader.{LeftReader}
use Rattle.chain_core.specs.declared.plan_outlet.Outlet.{Outlet}
use Rattle.plan_verbs.specs.declared.plan.Plan.{Plan}
use Rattle.chain_core.specs.declared.reader.Reader.{Reader}
use Rattle.chain_core.specs.declared.serial.Serial.{Serial}
use Rattle.plan_verbs.specs.Plans.{left_files}
use Rattle.chain_core.specs.Origins.{origin_of}
use Rattle.plan_verbs.specs.Verbs.{WasGiven, meaning_in}

-- it reads the left files of this plan, this was taken of them, and it had no fault
abbrev pub ReadsLefts : Plan → List Take → LeftReader → Type 0
ReadsLefts plan given one = left.Represents (left_files plan.verbs) given one.reader

-- it reads what this plan reads; this was taken of the inputs, and these events were pushed
abbrev pub Reads : Plan → List Take → List Event → Reader → Type 0
Reads plan given read one = ReaderRepresents (origin_of plan) given read one.reader

-- it writes by these styles, of which the first is that of standard output, and was given these events
pub record Writes (styles : List WriteOpts) (given : List Event) (one : Outlet) : Type 0 where
  pub style : WriteOpts
  pub rest : List WriteOpts
  pub styles_are : styles ≡ style ∷ rest
  pub represents : outlet.Represents style given one.outlet

-- It runs this command; this was taken of the inputs, these events were read, and the text of these was written.
abbrev pub Runs : Command → List Take → List Event → List Event → Serial → Type 0
Runs command given read shown one = SerialRepresents meaning_in WasGiven command given read shown one.serial
