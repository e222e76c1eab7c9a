-- The options of `top`.
use Rattle.std.specs.Prelude.{codes, if◌then◌else◌}
use Rattle.cli_grammar.specs.Options.{has}
use Rattle.cli_grammar.specs.declared.given.VerbWords.{VerbWords}
use Rattle.cli_choices.specs.Choices.{count_or, names_after, word_or}
use Rattle.cli_choices.specs.Names.{given_names}
use Rattle.verbs_top.specs.declared.top.Top.{Top}
use Rattle.verbs_top.specs.declared.top.TopOrder.TheVariants.{Max, Min}

abbrev pub top_of : VerbWords → Top
top_of given = record {
  names = names_after (codes "-f") given.options;
  count = count_or 1 (codes "-n") given.options;
  groups = given_names (codes "-g") given.options;
  order = if has (codes "--min") given.options then Min else Max;
  whole = has (codes "-a") given.options;
  output = word_or (codes "top_idx") (codes "-o") given.options;
}
