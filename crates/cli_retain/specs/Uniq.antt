-- The options of `uniq`.
use Rattle.std.specs.Prelude.{codes, if◌then◌else◌}
use Rattle.cli_grammar.specs.Options.{has}
use Rattle.cli_grammar.specs.declared.given.VerbWords.{VerbWords}
use Rattle.cli_choices.specs.Choices.{names_after}
use Rattle.mlr_groups.specs.declared.group_by.GroupBy.TheVariants as by
use Rattle.verbs_count.specs.declared.uniq.Uniq.{Uniq}
use Rattle.verbs_count.specs.declared.uniq.UniqShow.TheVariants as show

abbrev pub uniq_of : VerbWords → Uniq
uniq_of given = record {
  by = if has (codes "-a") given.options then by.Fields else by.Texts (names_after (codes "-g") given.options);
  show = if has (codes "-c") given.options then show.Counted else if has (codes "-n") given.options then show.Number else show.First;
}
