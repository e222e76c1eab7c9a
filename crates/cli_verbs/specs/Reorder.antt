-- The options of `reorder`.
use Rattle.std.specs.Prelude.{codes}
use Rattle.cli_grammar.specs.Options.{has}
use Rattle.cli_grammar.specs.declared.given.VerbWords.{VerbWords}
use Rattle.verbs_fields.specs.declared.reorder.Reorder.{Reorder}
use Rattle.cli_choices.specs.Choices.{names_after}

abbrev pub reorder_of : VerbWords → Reorder
reorder_of given = record {
  names = names_after (codes "-f") given.options;
  last = has (codes "-e") given.options;
}
