-- How the words of a command line are read, one after another.
use Rattle.std.specs.Prelude.{ℕ, ◌+◌, ◌==◌, nat_lt, Bool, false, not, ◌&&◌, ◌||◌, if◌then◌else◌, List, [], ◌∷◌, ◌++◌, length, codes, Option, Some, None}
use Rattle.std.specs.List.{list_all, list_any}
use Rattle.std.specs.Str.{bytes_eq}
use Rattle.mlr_spec.specs.Ascii.{dash}
use Rattle.mlr_tables.specs.Names.{verb_names}
use Rattle.mlr_tables.specs.Table.{row_of}
use Rattle.mlr_event.specs.declared.refusal.Refusal.{Refusal}
use Rattle.mlr_event.specs.declared.refusal.Why.{Why}
use Rattle.mlr_event.specs.declared.refusal.Why.TheVariants.{NoVerb, UnknownFlag, UnknownVerb, MissingArgument, NotBuilt}
use Rattle.cli_grammar.specs.declared.kind.Kind.{Kind}
use Rattle.cli_grammar.specs.declared.kind.Kind.TheVariants.{Nothing}
use Rattle.cli_grammar.specs.declared.given.Given.{Given}
use Rattle.cli_grammar.specs.declared.given.VerbWords.{VerbWords}
use Rattle.cli_grammar.specs.declared.line.Line.{Line}
use Rattle.cli_grammar.specs.declared.line.Place.{Place}
use Rattle.cli_grammar.specs.declared.line.Place.TheVariants as place
use Rattle.cli_grammar.specs.declared.line.Next.{Next}
use Rattle.cli_grammar.specs.declared.line.Next.TheVariants as next
use Rattle.cli_grammar.specs.Flags.{flag_named}
use Rattle.cli_grammar.specs.Options.{has}
use Rattle.cli_grammar.specs.Kinds.{fault_of}
use Rattle.cli_grammar.specs.Verbs.{row_of_verb, verb_named}

-- whether a word looks like an option
abbrev pub is_dashed : List ℕ → Bool
is_dashed [] = false
is_dashed (b ∷ word) = b == dash

-- the kind of the word after an option
abbrev pub kind_in : List (List ℕ × Kind) → List ℕ → Option Kind
kind_in [] word = None
kind_in (option ∷ options) word = if bytes_eq option.0 word then Some option.1 else kind_in options word

-- whether one of a group of options was given, if one must be
abbrev pub fulfils : List Given → List (List ℕ) × Bool → Bool
fulfils options group = not group.1 || list_any (λ name. has name options) group.0

-- whether a verb has the options that it must have
abbrev pub has_required : VerbWords → Bool
has_required verb = list_all (fulfils verb.options) (row_of_verb verb.verb).groups

-- whether a verb has fewer words of its own than its row says
abbrev pub lacks_words : VerbWords → Bool
lacks_words verb = nat_lt (length verb.words) (length (row_of_verb verb.verb).words)

abbrev pub with_option : VerbWords → Given → VerbWords
with_option verb given = record verb { options = verb.options ++ given ∷ [] }

abbrev pub with_word : VerbWords → List ℕ → VerbWords
with_word verb word = record verb { words = verb.words ++ word ∷ [] }

-- the verb with the first of its own words, which has this number
abbrev pub first_word : VerbWords → ℕ → List ℕ → VerbWords
first_word verb number word = with_word (record verb { own = number }) word

abbrev pub refusal : ℕ → Why → Refusal
refusal number why = record { word = number; why = why }

-- a verb whose options or words aren't all there
abbrev pub missing : VerbWords → Refusal
missing verb = refusal verb.number MissingArgument

-- a name, before its argument
abbrev pub name_at : ℕ → List ℕ → Given
name_at number word = record { number = number; name = word; argument = None }

-- a name with its argument
abbrev pub with_argument : Given → List ℕ → Given
with_argument given word = record given { argument = Some word }

-- a word where a verb must follow
abbrev pub after_then : ℕ → List ℕ → Next
after_then number word = elim (verb_named word) [
  | Some verb ↦ next.Goes (place.Options (record { verb = verb; number = number; options = []; own = 0; words = [] }))
  | None ↦ elim (row_of word verb_names) [
    | Some row ↦ next.Refused None (refusal number NotBuilt)
    | None ↦ next.Refused None (refusal number UnknownVerb)
  ]
]

-- the name of a flag, after which a word of this kind follows
abbrev pub after_flag_name : Given → Kind → Next
after_flag_name flag Nothing = next.Flag flag
after_flag_name flag kind = next.Goes (place.FlagArgument flag kind)

-- a word where a flag or the first verb must follow
abbrev pub after_flags : ℕ → List ℕ → Next
after_flags number word = elim (flag_named word) [
  | Some row ↦ after_flag_name (name_at number word) row.0
  | None ↦ if is_dashed word then next.Refused None (refusal number UnknownFlag) else after_then number word
]

-- the argument of a flag
abbrev pub after_flag : Given → Kind → ℕ → List ℕ → Next
after_flag flag kind number word = elim (fault_of kind word) [
  | Some why ↦ next.Refused None (refusal number why)
  | None ↦ next.Flag (with_argument flag word)
]

-- a word after a verb that is complete
abbrev pub ended : VerbWords → List ℕ → Next
ended verb word = if bytes_eq word (codes "then") then next.Then verb else next.Names verb

-- a word after the options of a verb, which is complete if it has no words of its own
abbrev pub after_all_options : VerbWords → ℕ → List ℕ → Next
after_all_options verb number word =
    if not (has_required verb) then next.Refused (Some verb) (missing verb) else (
    if lacks_words verb then next.Goes (place.Words (first_word verb number word)) else ended verb word)

-- the name of an option, after which a word of this kind follows
abbrev pub after_name : VerbWords → Given → Kind → Next
after_name verb option Nothing = next.Goes (place.Options (with_option verb option))
after_name verb option kind = next.Goes (place.Argument verb option kind)

-- a word where an option of a verb may follow
abbrev pub after_options : VerbWords → ℕ → List ℕ → Next
after_options verb number word = elim (kind_in (row_of_verb verb.verb).options word) [
  | Some kind ↦ after_name verb (name_at number word) kind
  | None ↦ if is_dashed word then next.Refused (Some verb) (refusal number UnknownFlag) else after_all_options verb number word
]

-- the argument of an option
abbrev pub after_option : VerbWords → Given → Kind → ℕ → List ℕ → Next
after_option verb option kind number word = elim (fault_of kind word) [
  | Some why ↦ next.Refused (Some verb) (refusal number why)
  | None ↦ next.Goes (place.Options (with_option verb (with_argument option word)))
]

-- a word where a word of a verb's own may follow
abbrev pub after_words : VerbWords → List ℕ → Next
after_words verb word =
    if lacks_words verb then next.Goes (place.Words (with_word verb word)) else ended verb word

-- what the next word is, which has this number
abbrev pub after : Place → ℕ → List ℕ → Next
after place.Flags number word = after_flags number word
after (place.FlagArgument flag kind) number word = after_flag flag kind number word
after place.Verb number word = after_then number word
after (place.Options verb) number word = after_options verb number word
after (place.Argument verb option kind) number word = after_option verb option kind number word
after (place.Words verb) number word = after_words verb word

abbrev pub accepted : List Given → List VerbWords → List (List ℕ) → Line
accepted flags verbs names = record { flags = flags; verbs = verbs; partial = None; names = names; refusal = None }

abbrev pub refused : List Given → List VerbWords → Option VerbWords → Refusal → Line
refused flags verbs partial why = record { flags = flags; verbs = verbs; partial = partial; names = []; refusal = Some why }

-- whether a verb has its words, too
abbrev pub is_complete : VerbWords → Bool
is_complete verb = has_required verb && not (lacks_words verb)

abbrev pub at_verb_end : List Given → List VerbWords → VerbWords → Line
at_verb_end flags verbs verb = if is_complete verb then accepted flags (verbs ++ verb ∷ []) [] else refused flags verbs (Some verb) (missing verb)

-- the line if the words end here, where the next would have this number
abbrev pub at_end : ℕ → List Given → List VerbWords → Place → Line
at_end number flags verbs place.Flags = refused flags verbs None (refusal number NoVerb)
at_end number flags verbs (place.FlagArgument flag kind) = refused flags verbs None (refusal flag.number MissingArgument)
at_end number flags verbs place.Verb = refused flags verbs None (refusal number NoVerb)
at_end number flags verbs (place.Options verb) = at_verb_end flags verbs verb
at_end number flags verbs (place.Argument verb option kind) = refused flags verbs (Some verb) (refusal option.number MissingArgument)
at_end number flags verbs (place.Words verb) = at_verb_end flags verbs verb

-- the line that the remaining words make, after the first `n` words
abbrev pub line_from : ℕ → List Given → List VerbWords → Place → List (List ℕ) → Line
line_from n flags verbs at [] = at_end (n + 1) flags verbs at
line_from n flags verbs at (word ∷ words) = elim (after at (n + 1) word) [
  | next.Goes to ↦ line_from (n + 1) flags verbs to words
  | next.Flag flag ↦ line_from (n + 1) (flags ++ flag ∷ []) verbs place.Flags words
  | next.Then verb ↦ line_from (n + 1) flags (verbs ++ verb ∷ []) place.Verb words
  | next.Names verb ↦ accepted flags (verbs ++ verb ∷ []) (word ∷ words)
  | next.Refused partial why ↦ refused flags verbs partial why
]

-- the line that words make
abbrev pub line_in : List (List ℕ) → Line
line_in words = line_from 0 [] [] place.Flags words
