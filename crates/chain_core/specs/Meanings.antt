-- What a run of a plan means.
use Rattle.std.specs.Prelude.{◌≡◌, List, [], ◌∷◌, ◌++◌, drop, length, take}
use Rattle.mlr_event.specs.declared.event.Event.{Event}
use Rattle.mlr_event.specs.declared.event.Event.TheVariants as event
use Rattle.mlr_event.specs.Verb.{Verb}
use Rattle.mlr_world.specs.Taken.{Take}
use Rattle.writers.specs.declared.options.WriteOpts.{WriteOpts}
use Rattle.left_files.specs.declared.left_file.LeftFile.{LeftFile}
use Rattle.left_files.specs.Lefts.{LeftState, faulted, lefts_of, reading, whole}
use Rattle.left_files.specs.Lefts as left
use Rattle.serial_core.specs.Command.{Command, Origin, result}
use Rattle.serial_core.specs.Command as main
use Rattle.serial_core.specs.Meaning.{Meaning}
use Rattle.verb_specs.specs.Verbs.{lefts_for, verbs_with}
use Rattle.plan_verbs.specs.declared.plan.Plan.{Plan}
use Rattle.plan_verbs.specs.Plans.{left_files}
use Rattle.chain_core.specs.Origins.{origin_of}

-- the command of a plan whose left files hold this, an entry for each verb: standard output is written by the first style
pub record IsCommandOf (plan : Plan) (lefts : List (List Event)) (command : Command) : Type 0 where
  pub origin : command.origin ≡ origin_of plan
  pub verbs : command.verbs ≡ verbs_with plan.verbs lefts
  pub rest : List WriteOpts
  pub write : plan.styles ≡ command.write ∷ rest

-- What comes of left files that are read so far, and of what was taken of the main inputs: nothing while a left file hasn't
-- ended, a fault in one alone, and else what the verbs make of the main inputs.
abbrev pub result_by : (List (List Event) → Command) → LeftState → List Take → List Event
result_by command reading main = []
result_by command (faulted fault) main = event.Fault fault ∷ []
result_by command (whole lefts) main = result (command lefts) main

-- the meaning of a run that first reads left files, and then runs a command by what they hold
abbrev pub with_lefts : List LeftFile → Origin → (List (List Event) → List Verb) → WriteOpts → Meaning
with_lefts files origin verbs write = record {
  names = left.names_of files ++ main.names_of origin;
  lefts = length files;
  result = λ given. result_by (λ lefts. record { origin = origin; verbs = verbs lefts; write = write }) (lefts_of files (take (length files) given)) (drop (length files) given);
  write = write;
}

-- what a plan means where standard output is written so
abbrev pub meaning_by : Plan → WriteOpts → Meaning
meaning_by plan write = with_lefts (left_files plan.verbs) (origin_of plan) (λ lefts. verbs_with plan.verbs (lefts_for plan.verbs lefts)) write

-- what a plan means: standard output is written by its first style
pub record IsMeaningOf (plan : Plan) (meaning : Meaning) : Type 0 where
  pub write : WriteOpts
  pub rest : List WriteOpts
  pub styles_are : plan.styles ≡ write ∷ rest
  pub is : meaning ≡ meaning_by plan write
