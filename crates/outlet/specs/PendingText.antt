-- What an outlet appends to its text before it writes it.
use Rattle.std.specs.Prelude.{◌≡◌, true, List, [], ◌++◌, Option, Some, None}
use Rattle.mlr_event.specs.Adding.{Adds}
use Rattle.mlr_event.specs.declared.event.Event.{Event}
use Rattle.mlr_event.specs.declared.event.Event.TheVariants as event
use Rattle.mlr_event.specs.declared.fault.Fault.{Fault}
use Rattle.mlr_event.specs.declared.names.Target.TheVariants.{Stdout}
use Rattle.mlr_event.specs.Verb.{is_list, is_open}
use Rattle.writers.specs.declared.options.WriteOpts.{WriteOpts}
use Rattle.writers.specs.Represents as writer
use Rattle.outlet.specs.declared.outlet.Let.{Let}
use Rattle.outlet.specs.declared.outlet.Let.TheVariants.{Went, Over, Failed, NoMemory}
use Rattle.outlet.specs.declared.outlet.Outlet.{Outlet}
use Rattle.outlet.specs.Out.{bodies, out_of}
use Rattle.outlet.specs.Represents.{LetSays}

-- whether an event is the last, and the fault that it is
abbrev pub over_by : Event → Option (Option Fault)
over_by (event.Rec fields ctx) = None
over_by (event.Text text) = None
over_by (event.Out target piece) = None
over_by (event.End ctx) = Some None
over_by (event.Fault fault) = Some (Some fault)

-- the result once all is written
abbrev pub let_of : Option (Option Fault) → Let
let_of None = Went
let_of (Some fault) = Over fault

-- a result of a write of all that was appended
abbrev pub OutcomeFor : Option (Option Fault) → Let → Type 0
OutcomeFor over Went = over ≡ None
OutcomeFor over (Over fault) = over ≡ Some fault
OutcomeFor over (Failed target) = target ≡ Stdout
OutcomeFor over NoMemory = Unit {0}

-- it writes by these options, and what these events become was put; no end and no fault was among them
pub record IsAt (opts : WriteOpts) (events : List Event) (outlet : Outlet) : Type 0 where
  pub clear : is_open events ≡ true
  pub represents : writer.Represents opts outlet.writer (bodies events)
  pub writes : writer.IsOpen outlet.writer

-- What was appended for events after others: what standard output gets of the longer list beyond the shorter
-- one.
pub record Appends (over : Option (Option Fault)) (opts : WriteOpts) (before events : List Event) (outlet outlet' : Outlet) : Type 0 where
  pub says : LetSays (let_of over) (before ++ events)
  pub adds : Adds outlet.text outlet'.text (out_of opts before) (out_of opts (before ++ events))
  pub more : over ≡ None → IsAt opts (before ++ events) outlet'

-- The first events of a list were taken, and what they become was appended. One that is the last leaves none.
pub record AppendsSome (over : Option (Option Fault)) (outlet : Outlet) (events : List Event) (outlet' : Outlet) (rest : List Event) : Type 0 where
  pub taken : List Event
  pub all : events ≡ taken ++ rest
  pub last : (fault : Option Fault) → over ≡ Some fault → rest ≡ []
  pub appends : (opts : WriteOpts) (before : List Event) → IsAt opts before outlet → is_list (before ++ events) ≡ true
      → Appends over opts before taken outlet outlet'
