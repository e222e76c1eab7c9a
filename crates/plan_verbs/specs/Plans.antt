-- What a plan says, and which plans can be run.
use Rattle.std.specs.Prelude.{◌≡◌, ℕ, ◌+◌, ◌-◌, ◌^◌, min, Bool, true, List, [], ◌∷◌, ◌++◌, Option, Some, None}
use Rattle.std.specs.List.{list_all}
use Rattle.mlr_event.specs.declared.names.InputName.{InputName}
use Rattle.mlr_event.specs.declared.options.ReadOpts.{ReadOpts}
use Rattle.read_files.specs.Represents.{can_read}
use Rattle.left_files.specs.declared.left_file.LeftFile.{LeftFile}
use Rattle.plan_verbs.specs.declared.plan.Plan.{Plan}
use Rattle.verb_specs.specs.declared.verb_spec.VerbSpec.{VerbSpec}
use Rattle.verb_specs.specs.Verbs.{AreSameVerbs, AreSound, left_of}

-- the left files of verbs, each with the number of its verb; the numbers have 32 bits
abbrev pub left_file : ℕ → Option (InputName × ReadOpts) → List LeftFile
left_file number None = []
left_file number (Some file) = record { number = number; read = file.1; name = file.0 } ∷ []

abbrev pub left_files_from : ℕ → List VerbSpec → List LeftFile
left_files_from number [] = []
left_files_from number (spec ∷ specs) = left_file number (left_of spec) ++ left_files_from (min (number + 1) (2 ^ 32 - 1)) specs

abbrev pub left_files : List VerbSpec → List LeftFile
left_files specs = left_files_from 1 specs

-- the left file of a verb, if it has one, can be read
abbrev pub can_read_left : VerbSpec → Bool
can_read_left spec = elim (left_of spec) [ Some file ↦ can_read file.1 | None ↦ true ]

-- a plan that can be run
pub record IsSound (plan : Plan) : Type 0 where
  pub readable : can_read plan.read ≡ true
  pub verbs : AreSound plan.verbs
  pub lefts : list_all can_read_left plan.verbs ≡ true
  pub styled : plan.styles ≡ [] → ⊥

pub record IsCopy (plan copy : Plan) : Type 0 where
  pub read : copy.read ≡ plan.read
  pub inputs : copy.inputs ≡ plan.inputs
  pub no_input : copy.no_input ≡ plan.no_input
  pub verbs : AreSameVerbs plan.verbs copy.verbs
  pub styles : copy.styles ≡ plan.styles
  pub per_batch : copy.per_batch ≡ plan.per_batch
  pub turns : copy.turns ≡ plan.turns
  pub serial : copy.serial ≡ plan.serial
