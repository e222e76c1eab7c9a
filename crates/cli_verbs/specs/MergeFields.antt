-- The options of `merge-fields`.
use Rattle.std.specs.Prelude.{◌≡◌, true, false, [], codes}
use Rattle.cli_grammar.specs.Options.{has}
use Rattle.cli_grammar.specs.declared.given.VerbWords.{VerbWords}
use Rattle.mlr_pattern.specs.Several.{patterns_in}
use Rattle.verbs_summary.specs.declared.merge_fields.MergeFields.{MergeFields}
use Rattle.verbs_summary.specs.declared.merge_fields.MergeInputs.{MergeInputs}
use Rattle.verbs_summary.specs.declared.merge_fields.MergeInputs.TheVariants.{Names, Patterns, Texts}
use Rattle.cli_choices.specs.Choices.{names_after, word_or}
use Rattle.cli_stat.specs.Lists.{accumulators_after}
use Rattle.cli_verbs.specs.Compiled.{AreCompiled}
use Rattle.cli_verbs.specs.PatternOption.{last_patterns}

-- the inputs are those that the words give
abbrev pub AreMergeInputsOf : VerbWords → MergeInputs → Type 0
AreMergeInputsOf given (Names names) =
    (has (codes "-r") given.options ≡ false) × (has (codes "-c") given.options ≡ false) × (names ≡ names_after (codes "-f") given.options)
AreMergeInputsOf given (Patterns patterns) =
    (has (codes "-r") given.options ≡ true) × AreCompiled (last_patterns [] given.options) (patterns_in patterns)
AreMergeInputsOf given (Texts texts) =
    (has (codes "-r") given.options ≡ false) × (has (codes "-c") given.options ≡ true) × (texts ≡ names_after (codes "-c") given.options)

-- The options are those that the words give.
pub record IsMergeFieldsOf (given : VerbWords) (options : MergeFields) : Type 0 where
  pub accumulators : options.accumulators ≡ accumulators_after given.options
  pub inputs : AreMergeInputsOf given options.inputs
  pub output : options.output ≡ word_or (codes "name") (codes "-o") given.options
  pub keep : options.keep ≡ has (codes "-k") given.options
