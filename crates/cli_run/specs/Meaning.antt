-- What is run for the words of a command line.
use Rattle.std.specs.Prelude.{◌≡◌, false, ℕ, ◌-◌, ◌==◌, if◌then◌else◌, List, [], slice_index_or, Option, Some, None}
use Rattle.mlr_event.specs.declared.names.InputName.{InputName}
use Rattle.chain_core.specs.Meanings.{IsMeaningOf}
use Rattle.mlr_event.specs.declared.names.Target.TheVariants.{Stdout}
use Rattle.serial_core.specs.Answer.{is_refused}
use Rattle.serial_core.specs.Meaning.{Meaning}
use Rattle.serial_core.specs.declared.answer.Ended.{Ended}
use Rattle.serial_core.specs.declared.answer.Ended.TheVariants as answer
use Rattle.verb_specs.specs.declared.verb_spec.VerbSpec.{VerbSpec}
use Rattle.writers.specs.declared.options.WriteOpts.{WriteOpts}
use Rattle.cli_plan.specs.declared.planned.Planned.{Planned}
use Rattle.cli_plan.specs.declared.planned.Planned.TheVariants as planned

-- the word with this number from 1; none of number 0 or past the last
abbrev pub word_at : List (List ℕ) → ℕ → List ℕ
word_at words number = if number == 0 then [] else slice_index_or words (number - 1) []

-- what is run: a plan, by what it means, and nothing where words come to no plan
abbrev pub Runs : Planned → Option Meaning → Type 0
Runs (planned.Ok plan) (Some meaning) = IsMeaningOf plan meaning
Runs (planned.Ok plan) None = ⊥
Runs (planned.Say text) (Some meaning) = ⊥
Runs (planned.Say text) None = Unit {0}
Runs (planned.Refused why) (Some meaning) = ⊥
Runs (planned.Refused why) None = Unit {0}
Runs planned.NoMemory (Some meaning) = ⊥
Runs planned.NoMemory None = Unit {0}

-- how it ends that a text is written to standard output
abbrev pub IsSaid : Ended → Type 0
IsSaid answer.Done = Unit {0}
IsSaid (answer.Written target) = target ≡ Stdout
IsSaid answer.NoMemory = Unit {0}
IsSaid ended = ⊥

-- Which outcomes come of what the words come to: words that are refused have the outcome Refused, and no others have.
abbrev pub Answers : Planned → Ended → Type 0
Answers (planned.Ok plan) ended = is_refused ended ≡ false
Answers (planned.Say text) ended = IsSaid ended
Answers (planned.Refused why) ended = ended ≡ answer.Refused why
Answers planned.NoMemory ended = ended ≡ answer.NoMemory

-- the inputs, the verbs and the styles that a message may name
abbrev pub inputs_named : Planned → List InputName
inputs_named (planned.Ok plan) = plan.inputs
inputs_named (planned.Say text) = []
inputs_named (planned.Refused why) = []
inputs_named planned.NoMemory = []

abbrev pub verbs_named : Planned → List VerbSpec
verbs_named (planned.Ok plan) = plan.verbs
verbs_named (planned.Say text) = []
verbs_named (planned.Refused why) = []
verbs_named planned.NoMemory = []

abbrev pub styles_named : Planned → List WriteOpts
styles_named (planned.Ok plan) = plan.styles
styles_named (planned.Say text) = []
styles_named (planned.Refused why) = []
styles_named planned.NoMemory = []

-- the inputs that are read: none where nothing is run
abbrev pub inputs_for : Option Meaning → List InputName
inputs_for None = []
inputs_for (Some meaning) = meaning.names
