-- The options of `sub`.
use Rattle.std.specs.Prelude.{◌≡◌, false}
use Rattle.std.specs.Arc.{arc_value}
use Rattle.cli_grammar.specs.declared.given.VerbWords.{VerbWords}
use Rattle.verbs_pattern.specs.declared.sub.Sub.{Sub}
use Rattle.cli_choices.specs.Choices.{own_word}
use Rattle.cli_verbs.specs.Compiled.{IsCompiled}
use Rattle.cli_verbs.specs.OwnPattern.{own_pattern}
use Rattle.cli_verbs.specs.SubFields.{sub_fields_of}

-- The options are those that the words give.
pub record IsSubOf (given : VerbWords) (options : Sub) : Type 0 where
  pub fields : options.fields ≡ sub_fields_of given
  pub compiled : IsCompiled (own_pattern false given) (arc_value options.pattern)
  pub by : options.by ≡ own_word 1 given
