-- What words mean: a plan, a text that the program says, or a refusal.
use Rattle.std.specs.Prelude.{◌≡◌, ℕ, List, [], ◌∷◌, Some, None}
use Rattle.plan_verbs.specs.declared.plan.Plan.{Plan}
use Rattle.mlr_event.specs.declared.options.ReadOpts.{ReadOpts}
use Rattle.verb_specs.specs.declared.verb_spec.VerbSpec.{VerbSpec}
use Rattle.cli_grammar.specs.declared.given.Given.{Given}
use Rattle.cli_grammar.specs.declared.given.VerbWords.{VerbWords}
use Rattle.cli_grammar.specs.declared.line.Line.{Line}
use Rattle.cli_grammar.specs.Reading.{line_in}
use Rattle.cli_verbs.specs.Verbs.{IsVerbOf}
use Rattle.cli_plan.specs.declared.planned.Planned.{Planned}
use Rattle.cli_plan.specs.declared.planned.Planned.TheVariants as planned
use Rattle.cli_plan.specs.Accepting.{IsAccepted, IsRefused}
use Rattle.cli_plan.specs.Inputs.{inputs_in}
use Rattle.cli_plan.specs.Options.{flatsep_of, read_of, write_of}
use Rattle.cli_plan.specs.Say.{said}
use Rattle.cli_plan.specs.Settings.{settings_in}
use Rattle.cli_plan.specs.declared.settings.Settings.{Settings}

-- the verbs that words give, in their order, where names are flattened with this separator and the main inputs are read so
abbrev pub AreVerbsOf : List ℕ → ReadOpts → List VerbWords → List VerbSpec → Type 0
AreVerbsOf flatsep read [] [] = Unit {0}
AreVerbsOf flatsep read [] (spec ∷ specs) = ⊥
AreVerbsOf flatsep read (given ∷ verbs) [] = ⊥
AreVerbsOf flatsep read (given ∷ verbs) (spec ∷ specs) = IsVerbOf flatsep read given spec × AreVerbsOf flatsep read verbs specs

-- The plan with these settings and verbs, field by field.
pub record IsMade (settings : Settings) (flags : List Given) (names : List (List ℕ)) (verbs : List VerbSpec) (plan : Plan) : Type 0 where
  pub read : plan.read ≡ read_of settings
  pub inputs : plan.inputs ≡ inputs_in flags names
  pub no_input : plan.no_input ≡ settings.no_input
  pub verbs_are : plan.verbs ≡ verbs
  pub styles : plan.styles ≡ write_of settings ∷ []
  pub per_batch : plan.per_batch ≡ settings.per_batch
  pub turns : plan.turns ≡ settings.turns
  pub serial : plan.serial ≡ settings.serial

-- The plan of a command line: its flags give the settings, and its verbs those of the plan.
pub record IsPlanOf (line : Line) (plan : Plan) : Type 0 where
  pub verbs : List VerbSpec
  pub given : AreVerbsOf (flatsep_of (settings_in line.flags)) (read_of (settings_in line.flags)) line.verbs verbs
  pub made : IsMade (settings_in line.flags) line.flags line.names verbs plan

-- a text that is said, unless there is no memory for it
abbrev pub IsText : List ℕ → Planned → Type 0
IsText text (planned.Ok plan) = ⊥
IsText text (planned.Say said) = said ≡ text
IsText text (planned.Refused why) = ⊥
IsText text planned.NoMemory = Unit {0}

-- The words mean this plan.
pub record Means (words : List (List ℕ)) (plan : Plan) : Type 0 where
  pub silent : said words ≡ None
  pub accepted : IsAccepted (line_in words)
  pub plan_is : IsPlanOf (line_in words) plan

-- what words come to: the plan that they mean, the text that they ask for, or how they are refused
abbrev pub Plans : List (List ℕ) → Planned → Type 0
Plans words (planned.Ok plan) = Means words plan
Plans words (planned.Say text) = said words ≡ Some text
Plans words (planned.Refused why) = (said words ≡ None) × IsRefused (line_in words) why
Plans words planned.NoMemory = Unit {0}
