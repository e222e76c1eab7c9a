-- How far an outlet has come, and what its calls leave.
use Rattle.std.specs.Prelude.{◌≡◌, ◌≤◌, ℕ, Bool, true, false, List, [], ◌++◌, Option, Some, None}
use Rattle.std.specs.List.{list_any}
use Rattle.mlr_event.specs.declared.event.Event.{Event}
use Rattle.mlr_event.specs.declared.names.Target.TheVariants.{Stdout}
use Rattle.mlr_event.specs.Verb.{is_end, is_open}
use Rattle.mlr_world.specs.Outputs.{Held, ChangesAt, IsPrefixOf, with_bytes}
use Rattle.writers.specs.declared.options.WriteOpts.{WriteOpts}
use Rattle.writers.specs.Represents as writer
use Rattle.outlet.specs.declared.outlet.Let.{Let}
use Rattle.outlet.specs.declared.outlet.Let.TheVariants.{Went, Over, Failed, NoMemory}
use Rattle.outlet.specs.declared.outlet.Outlet.{Outlet}
use Rattle.outlet.specs.Out.{bodies, fault_in, out_of}

-- it writes by these options, and what these events become was written; no end and no fault was among them
pub record Represents (opts : WriteOpts) (events : List Event) (outlet : Outlet) : Type 0 where
  pub clear : is_open events ≡ true
  pub represents : writer.Represents opts outlet.writer (bodies events)
  pub writes : writer.IsOpen outlet.writer
  pub text : outlet.text ≡ []

abbrev pub has_failed : Let → Bool
has_failed Went = false
has_failed (Over fault) = false
has_failed (Failed target) = true
has_failed NoMemory = false

abbrev pub lacks_memory : Let → Bool
lacks_memory Went = false
lacks_memory (Over fault) = false
lacks_memory (Failed target) = false
lacks_memory NoMemory = true

-- a count of shortages over calls that may have met one only where memory ran out
abbrev pub CountedIf : Bool → ℕ → ℕ → Type 0
CountedIf true before now = before ≤ now
CountedIf false before now = now ≡ before

-- what a result says of all events that were given
abbrev pub LetSays : Let → List Event → Type 0
LetSays Went events = is_open events ≡ true
LetSays (Over None) events = list_any is_end events ≡ true
LetSays (Over (Some fault)) events = fault_in events ≡ Some fault
LetSays (Failed target) events = target ≡ Stdout
LetSays NoMemory events = Unit {0}

-- a prefix of a text was appended to what a target holds
abbrev pub AppendsPrefix : List ℕ → Option (List ℕ) → Option (List ℕ) → Type 0
AppendsPrefix text before now = (prefix : List ℕ) × IsPrefixOf text prefix × (now ≡ with_bytes prefix before)

-- what a result leaves of a text in standard output
abbrev pub LetLeaves : Let → List ℕ → Option (List ℕ) → Option (List ℕ) → Type 0
LetLeaves Went text before now = now ≡ with_bytes text before
LetLeaves (Over fault) text before now = now ≡ with_bytes text before
LetLeaves (Failed target) text before now = AppendsPrefix text before now
LetLeaves NoMemory text before now = AppendsPrefix text before now

-- What a call did with events after others: it wrote what standard output gets of the longer list beyond the
-- shorter one.
pub record Took (answer : Let) (opts : WriteOpts) (before events : List Event) (held held' : Option Held) : Type 0 where
  pub says : LetSays answer (before ++ events)
  pub more : List ℕ
  pub text : out_of opts (before ++ events) ≡ out_of opts before ++ more
  pub leaves : ChangesAt Stdout (LetLeaves answer more) held held'
