-- The options of `join`.
use Rattle.std.specs.Prelude.{ℕ, Bool, not, ◌&&◌, ◌==◌, List, [], length, codes, Option, Some, None}
use Rattle.std.specs.Option.{option_and_then, option_or}
use Rattle.mlr_event.specs.Defaults.{default_separator}
use Rattle.mlr_event.specs.declared.names.InputName.TheVariants.{File}
use Rattle.mlr_event.specs.declared.options.Format.{Format}
use Rattle.mlr_event.specs.declared.options.ReadOpts.{ReadOpts}
use Rattle.cli_grammar.specs.Kinds.{format_named}
use Rattle.cli_grammar.specs.Options.{has, last}
use Rattle.cli_grammar.specs.declared.given.Given.{Given}
use Rattle.cli_grammar.specs.declared.given.VerbWords.{VerbWords}
use Rattle.cli_choices.specs.Choices.{word_or}
use Rattle.cli_choices.specs.Names.{all_names}
use Rattle.verbs_join.specs.declared.join.Join.{Join}

-- how a left file is read: as the main inputs are, or in another format with the separators of that format
abbrev pub read_in : ReadOpts → Format → ReadOpts
read_in main fmt = record main { format = fmt; ifs = default_separator fmt; ips = codes "=" }

abbrev pub left_read : ReadOpts → VerbWords → ReadOpts
left_read main given = elim (option_and_then format_named (last (codes "-i") given.options)) [ Some fmt ↦ read_in main fmt | None ↦ main ]

-- the word after the first of three options that was given
abbrev pub word_by : List ℕ → List ℕ → List ℕ → List Given → Option (List ℕ)
word_by first second third options = option_or (option_or (last first options) (last second options)) (last third options)

-- the names in it; every name counts
abbrev pub names_by : List ℕ → List ℕ → List ℕ → List Given → List (List ℕ)
names_by first second third options = elim (word_by first second third options) [ Some word ↦ all_names word | None ↦ [] ]

-- the names of the join fields in a left record, in a right one and in a pair: those of their own option, or else of another
abbrev pub left_names : VerbWords → List (List ℕ)
left_names given = names_by (codes "-l") (codes "-j") (codes "-r") given.options

abbrev pub right_names : VerbWords → List (List ℕ)
right_names given = names_by (codes "-r") (codes "-j") (codes "-l") given.options

abbrev pub output_names : VerbWords → List (List ℕ)
output_names given = names_by (codes "-j") (codes "-l") (codes "-r") given.options

-- whether the join fields that are given are more on one side than on another
abbrev pub is_uneven : VerbWords → Bool
is_uneven given = not (length (left_names given) == length (right_names given) && length (left_names given) == length (output_names given))

-- the options of `join`, where the main inputs are read so
abbrev pub join_of : ReadOpts → VerbWords → Join
join_of main given = record {
  file = File (word_or [] (codes "-f") given.options);
  read = left_read main given;
  left = left_names given;
  right = right_names given;
  output = output_names given;
  pairs = not (has (codes "--np") given.options);
  left_unpaired = has (codes "--ul") given.options;
  right_unpaired = has (codes "--ur") given.options;
  left_prefix = last (codes "--lp") given.options;
  right_prefix = last (codes "--rp") given.options;
}
