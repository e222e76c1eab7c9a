-- The options of `unspace`.
use Rattle.std.specs.Prelude.{codes, if◌then◌else◌}
use Rattle.cli_grammar.specs.Options.{has}
use Rattle.cli_grammar.specs.declared.given.VerbWords.{VerbWords}
use Rattle.verbs_fields.specs.declared.unspace.Unspace.{Unspace}
use Rattle.verbs_fields.specs.declared.unspace.UnspacePart.{UnspacePart}
use Rattle.verbs_fields.specs.declared.unspace.UnspacePart.TheVariants.{Both, Keys, Values}
use Rattle.cli_choices.specs.Choices.{word_or}

-- where spaces are replaced
abbrev pub part_of : VerbWords → UnspacePart
part_of given = if has (codes "-k") given.options then Keys else (if has (codes "-v") given.options then Values else Both)

abbrev pub unspace_of : VerbWords → Unspace
unspace_of given = record {
  text = word_or (codes "_") (codes "-f") given.options;
  part = part_of given;
}
