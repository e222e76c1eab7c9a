-- What a run of a command line does to the inputs and the outputs, by its outcome.
use Rattle.std.specs.Prelude.{◌≡◌, ◌⊎◌, ℕ, ◌≤◌, ◌^◌, List, [], ◌++◌, drop, Option, Some, None, IfSome}
use Rattle.std.specs.Option.{option_map}
use Rattle.mlr_event.specs.declared.names.Target.{Target}
use Rattle.mlr_event.specs.declared.names.Target.TheVariants.{Stdout, Stderr, File}
use Rattle.mlr_world.specs.Counts.{Counted, Rose}
use Rattle.mlr_world.specs.Inputs.{Contents}
use Rattle.mlr_world.specs.Outputs.{Held, with_bytes}
use Rattle.mlr_world.specs.Taken.{Take}
use Rattle.outlet.specs.Represents.{AppendsPrefix, CountedIf}
use Rattle.read_files.specs.Takes.{ArePrefixesTaken, InOrder, total}
use Rattle.serial_core.specs.declared.answer.Ended.{Ended}
use Rattle.serial_core.specs.declared.answer.Ended.TheVariants as answer
use Rattle.serial_core.specs.Answer.{IsOfNoInput, has_failed, lacks_memory}
use Rattle.serial_core.specs.Meaning.{Meaning, counted, text}
use Rattle.serial_core.specs.Run.{HoldsFew, StopsEarly}
use Rattle.serial_core.specs.Whole as all
use Rattle.serial_core.specs.Whole.{Gets, IsVerdict, whole_of}
use Rattle.serial_core.specs.Represents as outcomes
use Rattle.chain_core.specs.Outputs as outputs
use Rattle.chain_core.specs.Outputs.{WhereTold, clear}
use Rattle.cli_plan.specs.declared.planned.Planned.{Planned}
use Rattle.cli_plan.specs.declared.planned.Planned.TheVariants as planned
use Rattle.cli_plan.specs.Planning.{Plans}
use Rattle.cli_run.specs.Meaning.{Answers, Runs, inputs_for, inputs_named, styles_named, verbs_named}
use Rattle.cli_run.specs.Message.{message_of}

-- what an outcome says of what was taken of the inputs: nothing was, where nothing is run
abbrev pub Says : Ended → Option Meaning → List Take → Type 0
Says ended None given = given ≡ []
Says ended (Some meaning) given = outcomes.Says ended meaning given

-- little was taken: of the main inputs nothing where the left files fix the result, and of all fewer than 65,536 bytes more than
-- fix it
abbrev pub Stops : Option Meaning → Contents → List Take → Type 0
Stops None told given = Unit {0}
Stops (Some meaning) told given = StopsEarly meaning told given

-- The counts of the outputs before the message: the run counted nothing but a failed write and, where memory ran out, a
-- shortage; a run that is done has no message.
pub record Between (ended : Ended) (faults faults' : Target → ℕ) (shortages shortages' : ℕ) : Type 0 where
  pub faults_before : Target → ℕ
  pub shortages_before : ℕ
  pub run_faults : Counted (has_failed ended) faults faults_before Stdout
  pub run_shortages : CountedIf (lacks_memory ended) shortages shortages_before
  pub message_faults : (target : Target) → faults_before target ≤ faults' target
  pub message_shortages : shortages_before ≤ shortages'
  pub silent : ended ≡ answer.Done → ((target : Target) → faults' target ≡ faults_before target) × (shortages' ≡ shortages_before)

-- a call of the message couldn't write
abbrev pub IsCut : (ended : Ended) (faults faults' : Target → ℕ) (shortages shortages' : ℕ) → Between ended faults faults' shortages shortages' → Type 0
IsCut ended faults faults' shortages shortages' between = Rose (between.faults_before Stderr) (faults' Stderr) ⊎ Rose between.shortages_before shortages'

-- what a message leaves in standard error: all of it, or a prefix where one of its calls couldn't write
abbrev pub LeavesMessage : List ℕ → Type 0 → Option (List ℕ) → Option (List ℕ) → Type 0
LeavesMessage message Unwritten before now = (now ≡ with_bytes message before) ⊎ (Unwritten × AppendsPrefix message before now)

-- what a text that the program says leaves in a target: standard output has it, or a prefix of it where a call couldn't
-- write
abbrev pub LeavesText : List ℕ → Ended → Target → Option (List ℕ) → Option (List ℕ) → Type 0
LeavesText text ended Stderr before now = now ≡ before
LeavesText text ended (File name) before now = now ≡ before
LeavesText text answer.Done Stdout before now = now ≡ with_bytes text before
LeavesText text ended Stdout before now = AppendsPrefix text before now

-- what is left in a target where nothing is run: the text that words ask for, or what was there
abbrev pub LeavesSaid : Planned → Ended → Target → Option (List ℕ) → Option (List ℕ) → Type 0
LeavesSaid (planned.Say text) ended one before now = LeavesText text ended one before now
LeavesSaid planned ended one before now = now ≡ before

-- what a run leaves in a target before its message
abbrev pub LeavesFor : Planned → Option Meaning → Ended → List Take → Target → Option (List ℕ) → Option (List ℕ) → Type 0
LeavesFor planned None ended given one before now = LeavesSaid planned ended one before now
LeavesFor planned (Some meaning) ended given one before now =
    outputs.LeavesFor ended meaning.write (drop 1 (styles_named planned)) (clear (meaning.result given)) one before now

-- What a run leaves in each target; standard error has its own text, and then the message.
pub record Leaves (words : List (List ℕ)) (planned : Planned) (meant : Option Meaning) (ended : Ended) (given : List Take) (Unwritten : Type 0) (before now : Held) : Type 0 where
  pub each : (one : Target) → (one ≡ Stderr → ⊥) → LeavesFor planned meant ended given one (before one) (now one)
  pub own : Option (List ℕ)
  pub err : LeavesFor planned meant ended given Stderr (before Stderr) own
  pub message : LeavesMessage (message_of words (inputs_named planned) (verbs_named planned) (styles_named planned) ended) Unwritten own (now Stderr)

-- how many bytes the limit of a run counts
abbrev pub counted_for : Option Meaning → List Take → ℕ
counted_for None given = total given
counted_for (Some meaning) given = counted meaning.lefts given

-- What was taken, and what the outcome says of it: the inputs were opened and read in their order, no more than 2^60 bytes of a
-- left file, or of all main inputs together, and what was taken is what the inputs report, where they report it.
pub record Takes (meant : Option Meaning) (ended : Ended) (given : List Take) (contents : Option Contents) (taken taken' : Option (List Take)) : Type 0 where
  pub order : InOrder (inputs_for meant) given
  pub few : counted_for meant given ≤ 2 ^ 60
  pub entries : taken' ≡ option_map (λ before. before ++ given) taken
  pub prefixes : IfSome contents (λ told. IfSome taken (λ _. ArePrefixesTaken told given))
  pub says : Says ended meant given
  pub early : IfSome contents (λ told. IfSome taken (λ _. Stops meant told given))

-- the outcome and standard output by all that the inputs hold: after Done and Data they are its verdict and its text, and
-- else standard output has a prefix of its text
abbrev pub OfWhole : Ended → Option Meaning → Contents → Option Held → Option Held → Type 0
OfWhole ended None told held held' = Unit {0}
OfWhole ended (Some meaning) told held held' =
    IsVerdict ended meaning (whole_of told meaning.names) × WhereTold (λ before now. Gets ended (text meaning (whole_of told meaning.names)) (before Stdout) (now Stdout)) held held'

-- where no input fails, each left file holds fewer than 2^60 bytes, and the main inputs do together, the outcome is neither Read
-- nor TooLong
abbrev pub Completes : Option Meaning → Type 0 → Ended → Option Contents → Option (List Take) → Type 0
Completes None Quiet ended contents taken = Unit {0}
Completes (Some meaning) Quiet ended contents taken = HoldsFew meaning contents taken → Quiet → IsOfNoInput ended

-- A run: what the words come to and what is run for them, what was taken, and what the run leaves; and the same by all
-- that the inputs hold. `Quiet` says that no call on an input failed.
pub record Run (words : List (List ℕ)) (ended : Ended) (Quiet : Type 0) (contents : Option Contents) (taken taken' : Option (List Take)) (held held' : Option Held) (faults faults' : Target → ℕ) (shortages shortages' : ℕ) : Type 0 where
  pub planned : Planned
  pub plans : Plans words planned
  pub answers : Answers planned ended
  pub meant : Option Meaning
  pub runs : Runs planned meant
  pub given : List Take
  pub takes : Takes meant ended given contents taken taken'
  pub between : Between ended faults faults' shortages shortages'
  pub leaves : WhereTold (Leaves words planned meant ended given (IsCut ended faults faults' shortages shortages' between)) held held'
  pub whole : IfSome contents (λ told. IfSome taken (λ _. OfWhole ended meant told held held'))
  pub completes : Completes meant Quiet ended contents taken

abbrev pub RanWhole : Ended → Option Meaning → Contents → Option Held → Option Held → Type 0
RanWhole ended None told held held' = Unit {0}
RanWhole ended (Some meaning) told held held' = all.OfWhole ended meaning told held held'

-- The same before its message.
pub record Ran (planned : Planned) (ended : Ended) (Quiet : Type 0) (contents : Option Contents) (taken taken' : Option (List Take)) (held held' : Option Held) : Type 0 where
  pub answers : Answers planned ended
  pub meant : Option Meaning
  pub runs : Runs planned meant
  pub given : List Take
  pub takes : Takes meant ended given contents taken taken'
  pub each : WhereTold (λ before now. (one : Target) → LeavesFor planned meant ended given one (before one) (now one)) held held'
  pub whole : IfSome contents (λ told. IfSome taken (λ _. RanWhole ended meant told held held'))
  pub completes : Completes meant Quiet ended contents taken

-- what each outcome says of the counts of the outputs
abbrev pub OutputCause : Ended → (Target → ℕ) → (Target → ℕ) → Type 0
OutputCause answer.Done before now = (target : Target) → now target ≡ before target
OutputCause (answer.Refused refusal) before now = Unit {0}
OutputCause (answer.Data fault) before now = Unit {0}
OutputCause (answer.Read name) before now = Unit {0}
OutputCause (answer.Written target) before now = Rose (before target) (now target)
OutputCause answer.TooLong before now = Unit {0}
OutputCause answer.NoMemory before now = Unit {0}
