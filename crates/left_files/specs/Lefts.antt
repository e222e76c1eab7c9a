-- What left files hold, by what was taken of them.
use Rattle.std.specs.Prelude.{ℕ, if◌then◌else◌, List, [], ◌∷◌, ◌++◌, map, Option, Some, None}
use Rattle.mlr_event.specs.declared.event.Event.{Event}
use Rattle.mlr_event.specs.declared.event.Event.TheVariants as event
use Rattle.mlr_event.specs.declared.fault.Fault.{Fault}
use Rattle.mlr_event.specs.declared.fault.Fault.TheVariants as fault
use Rattle.mlr_event.specs.declared.names.FileRef.TheVariants.{Left}
use Rattle.mlr_event.specs.declared.names.InputName.{InputName}
use Rattle.mlr_world.specs.Taken.{Take}
use Rattle.read_files.specs.Sources.{events_taken}
use Rattle.left_files.specs.declared.left_file.LeftFile.{LeftFile}

abbrev pub names_of : List LeftFile → List InputName
names_of files = map (λ file. file.name) files

-- the fault of a list, if it has one
abbrev pub fault_of : Event → Option Fault
fault_of (event.Rec fields ctx) = None
fault_of (event.Text text) = None
fault_of (event.Out target piece) = None
fault_of (event.End ctx) = None
fault_of (event.Fault fault) = Some fault

abbrev pub fault_in : List Event → Option Fault
fault_in [] = None
fault_in (e ∷ events) = elim (fault_of e) [ Some fault ↦ Some fault | None ↦ fault_in events ]

-- the same fault in the left file of the verb with this number; a fault of a verb stays as it is
abbrev pub at_left : ℕ → Fault → Fault
at_left number (fault.Length file line want have) = fault.Length (Left number) line want have
at_left number (fault.Quote file line) = fault.Quote (Left number) line
at_left number (fault.Table file line) = fault.Table (Left number) line
at_left number (fault.JsonSyntax file byte) = fault.JsonSyntax (Left number) byte
at_left number (fault.JsonDeep file byte) = fault.JsonDeep (Left number) byte
at_left number (fault.JsonKind file byte) = fault.JsonKind (Left number) byte
at_left number (fault.Turns verb nr limit) = fault.Turns verb nr limit
at_left number (fault.Depth verb nr) = fault.Depth verb nr
at_left number (fault.Assert verb nr name) = fault.Assert verb nr name
at_left number (fault.WrongType verb nr name) = fault.WrongType verb nr name
at_left number (fault.Index verb nr) = fault.Index verb nr
at_left number (fault.OutputTwice name first_mode first second_mode second) = fault.OutputTwice name first_mode first second_mode second

-- how far left files are read: not whole yet, up to a fault, or whole, with the events of each
pub data LeftState : Type 0 where
  reading : LeftState
  faulted : Fault → LeftState
  whole : List (List Event) → LeftState

-- what was taken of a left file gives, up to its first fault
abbrev pub left_events : LeftFile → Take → List Event
left_events file take = events_taken file.read (take ∷ [])

-- how far a left file is read
abbrev pub left_state : LeftFile → Take → LeftState
left_state file take = elim (fault_in (left_events file take)) [
  | Some fault ↦ faulted (at_left file.number fault)
  | None ↦ if take.ended then whole (left_events file take ∷ []) else reading
]

-- files that follow others count where the others are whole
abbrev pub then_state : LeftState → LeftState → LeftState
then_state reading next = reading
then_state (faulted fault) next = faulted fault
then_state (whole lefts) reading = reading
then_state (whole lefts) (faulted fault) = faulted fault
then_state (whole lefts) (whole more) = whole (lefts ++ more)

-- how far left files are read, one after another
abbrev pub lefts_of : List LeftFile → List Take → LeftState
lefts_of [] takes = whole []
lefts_of (file ∷ files) [] = reading
lefts_of (file ∷ files) (take ∷ takes) = then_state (left_state file take) (lefts_of files takes)
