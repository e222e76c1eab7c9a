-- Words of a verb that contradict each other.
use Rattle.std.specs.Prelude.{ℕ, ◌%◌, ◌==◌, nat_lt, min, max, Bool, false, not, ◌&&◌, if◌then◌else◌, List, [], ◌∷◌, ◌++◌, length, codes, Option, Some, None}
use Rattle.std.specs.List.{list_any}
use Rattle.std.specs.Str.{bytes_eq}
use Rattle.cli_grammar.specs.Options.{has}
use Rattle.cli_grammar.specs.Verbs.{row_of_verb}
use Rattle.cli_grammar.specs.declared.given.Given.{Given}
use Rattle.cli_grammar.specs.declared.given.VerbWords.{VerbWords}
use Rattle.cli_grammar.specs.declared.verb_table.VerbName.{VerbName}
use Rattle.cli_grammar.specs.declared.verb_table.VerbName.TheVariants as verb
use Rattle.mlr_event.specs.Reading.{is_among}
use Rattle.mlr_spec.specs.Pairs.{are_distinct}
use Rattle.cli_choices.specs.Choices.{names_after, number_or, own_word, word_or}
use Rattle.cli_choices.specs.Names.{all_names}
use Rattle.cli_shape.specs.Join.{is_uneven}

-- whether two names are options of a group
abbrev pub are_in : List ℕ → List ℕ → List (List ℕ) × Bool → Bool
are_in name other group = is_among group.0 name && is_among group.0 other

-- whether two names are different options of one group
abbrev pub are_rivals : List (List (List ℕ) × Bool) → List ℕ → List ℕ → Bool
are_rivals groups name other = not (bytes_eq name other) && list_any (are_in name other) groups

-- the number of the first option that contradicts one before it
abbrev pub clash_after : List (List (List ℕ) × Bool) → List Given → List Given → Option ℕ
clash_after groups before [] = None
clash_after groups before (given ∷ options) =
    if list_any (λ other. are_rivals groups given.name other.name) before then Some given.number else clash_after groups (before ++ given ∷ []) options

-- groups of options of which at most one may be given; of `join` and `sort` every option counts
abbrev pub exclusive_groups : VerbName → List (List (List ℕ) × Bool)
exclusive_groups verb.Join = []
exclusive_groups verb.Sort = []
exclusive_groups name = (row_of_verb name).groups

-- the number of the first option that contradicts an earlier one
abbrev pub option_clash : VerbWords → Option ℕ
option_clash given = clash_after (exclusive_groups given.verb) [] given.options

-- whether a name repeats
abbrev pub has_repeated : VerbWords → Bool
has_repeated given = not (are_distinct (all_names (own_word 0 given)))

-- whether the last name has no name that replaces it
abbrev pub is_odd_rename : VerbWords → Bool
is_odd_rename given = length (all_names (own_word 0 given)) % 2 == 1

-- the option of `reshape` that names two fields
abbrev pub direction : VerbWords → List ℕ
direction given = if has (codes "-s") given.options then codes "-s" else codes "-o"

-- whether the last `-s` or `-o` of `reshape` doesn't have two names
abbrev pub is_not_of_two : VerbWords → Bool
is_not_of_two given = not (length (all_names (word_or [] (direction given) given.options)) == 2)

-- whether `top -a` has several names
abbrev pub is_whole_of_several : VerbWords → Bool
is_whole_of_several given = has (codes "-a") given.options && nat_lt 1 (length (names_after (codes "-f") given.options))

-- whether the names of this verb contradict each other or an option
abbrev pub names_contradict : VerbName → VerbWords → Bool
names_contradict verb.Join given = is_uneven given
names_contradict verb.Label given = has_repeated given
names_contradict verb.Rename given = is_odd_rename given
names_contradict verb.Reshape given = is_not_of_two given
names_contradict verb.Top given = is_whole_of_several given
names_contradict _ given = false

-- the number of the first option with this name
abbrev pub first_number : List ℕ → List Given → ℕ
first_number name [] = 0
first_number name (given ∷ options) = if bytes_eq given.name name then given.number else first_number name options

-- the number of the first `-a` or the last `-f`, whichever is later
abbrev pub later_of_whole : List Given → ℕ
later_of_whole options = max (first_number (codes "-a") options) (number_or 0 (codes "-f") options)

-- the number of the word that contradicts the names, or of the names themselves; of `join` that of the verb
abbrev pub names_number : VerbName → VerbWords → ℕ
names_number verb.Join given = given.number
names_number verb.Reshape given = number_or 0 (direction given) given.options
names_number verb.Top given = later_of_whole given.options
names_number _ given = given.own

-- the number of the word where the names of this verb contradict each other or an option
abbrev pub names_clash : VerbName → VerbWords → Option ℕ
names_clash name given = if names_contradict name given then Some (names_number name given) else None

-- the lesser of two numbers, or the one that is there
abbrev pub earlier : Option ℕ → Option ℕ → Option ℕ
earlier (Some one) (Some other) = Some (min one other)
earlier (Some one) None = Some one
earlier None other = other

-- the number of the first word that contradicts an earlier one
abbrev pub clash_of : VerbWords → Option ℕ
clash_of given = earlier (option_clash given) (names_clash given.verb given)
