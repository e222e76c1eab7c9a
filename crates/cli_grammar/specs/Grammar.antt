-- The grammar of a command line: main flags, then verbs with their options and words, each but the last before `then`,
-- then file names.
use Rattle.std.specs.Prelude.{◌≡◌, ℕ, ◌+◌, ◌==◌, ◌≤◌, ◌<◌, Bool, true, false, not, ◌&&◌, ◌||◌, is_none, List, [], ◌∷◌, ◌++◌, length, take, codes, Option, Some, None}
use Rattle.std.specs.List.{flat_map, list_all}
use Rattle.std.specs.Str.{bytes_eq}
use Rattle.cli_grammar.specs.declared.given.Given.{Given}
use Rattle.cli_grammar.specs.declared.given.VerbWords.{VerbWords}
use Rattle.cli_grammar.specs.declared.kind.Kind.{Kind}
use Rattle.cli_grammar.specs.declared.kind.Kind.TheVariants.{Nothing}
use Rattle.cli_grammar.specs.Flags.{flag_named}
use Rattle.cli_grammar.specs.Kinds.{fault_of}
use Rattle.cli_grammar.specs.Reading.{has_required, is_dashed, kind_in}
use Rattle.cli_grammar.specs.Verbs.{row_of_verb}

-- whether an option of this kind takes no argument
abbrev pub is_alone : Kind → Bool
is_alone Nothing = true
is_alone kind = false

-- whether the word after an option, if there is one, is of its kind
abbrev pub suits : Kind → Option (List ℕ) → Bool
suits kind None = is_alone kind
suits kind (Some word) = not (is_alone kind) && is_none (fault_of kind word)

-- a main flag, with its argument
abbrev pub is_flag : Given → Bool
is_flag given = elim (flag_named given.name) [ Some row ↦ suits row.0 given.argument | None ↦ false ]

-- an option of a verb, with its argument
abbrev pub is_option : List (List ℕ × Kind) → Given → Bool
is_option options given = elim (kind_in options given.name) [ Some kind ↦ suits kind given.argument | None ↦ false ]

-- the first of these words, if there is one, doesn't look like an option
abbrev pub begins_plainly : List (List ℕ) → Bool
begins_plainly [] = true
begins_plainly (word ∷ words) = not (is_dashed word)

-- a verb with its options, among them those that it must have, and as many words of its own as its row says
abbrev pub is_verb : VerbWords → Bool
is_verb verb =
    list_all (is_option (row_of_verb verb.verb).options) verb.options && (has_required verb && (begins_plainly verb.words
    && (length verb.words == length (row_of_verb verb.verb).words)))

-- File names after a verb: the first isn't `then`, and doesn't look like an option where the verb has no words of its
-- own.
abbrev pub are_names : VerbWords → List (List ℕ) → Bool
are_names verb [] = true
are_names verb (name ∷ names) = not (bytes_eq name (codes "then")) && (not (length verb.words == 0) || not (is_dashed name))

-- the words of a flag or an option, and of a verb
abbrev pub spelled_given : Given → List (List ℕ)
spelled_given given = given.name ∷ elim given.argument [ Some word ↦ word ∷ [] | None ↦ [] ]

abbrev pub spelled_verb : VerbWords → List (List ℕ)
spelled_verb verb = (row_of_verb verb.verb).name ∷ flat_map spelled_given verb.options ++ verb.words

abbrev pub spelled_then : VerbWords → List (List ℕ)
spelled_then verb = spelled_verb verb ++ codes "then" ∷ []

-- the words of a command line
abbrev pub spelled : List Given → List VerbWords → VerbWords → List (List ℕ) → List (List ℕ)
spelled flags before verb names = flat_map spelled_given flags ++ flat_map spelled_then before ++ spelled_verb verb ++ names

-- Each flag, option and verb has the number of its word, where `n` words precede the first.
abbrev pub are_numbered : ℕ → List Given → Bool
are_numbered n [] = true
are_numbered n (given ∷ options) = (given.number == n + 1) && are_numbered (n + length (spelled_given given)) options

-- the number of the first of a verb's own words, which follow `n` words; 0 where there are none
abbrev pub number_of_own : ℕ → List (List ℕ) → ℕ
number_of_own n [] = 0
number_of_own n (word ∷ words) = n + 1

abbrev pub is_numbered_verb : ℕ → VerbWords → Bool
is_numbered_verb n verb =
    (verb.number == n + 1) && (are_numbered (n + 1) verb.options
    && (verb.own == number_of_own (n + 1 + length (flat_map spelled_given verb.options)) verb.words))

abbrev pub are_numbered_verbs : ℕ → List VerbWords → Bool
are_numbered_verbs n [] = true
are_numbered_verbs n (verb ∷ verbs) = is_numbered_verb n verb && are_numbered_verbs (n + length (spelled_then verb)) verbs

-- The words are a command line with these flags, verbs and file names.
pub record IsLine (words : List (List ℕ)) (flags : List Given) (verbs : List VerbWords) (names : List (List ℕ)) : Type 0 where
  pub before : List VerbWords
  pub last : VerbWords
  pub verbs_are : verbs ≡ before ++ last ∷ []
  pub words_are : words ≡ spelled flags before last names
  pub are_flags : list_all is_flag flags ≡ true
  pub are_verbs : list_all is_verb verbs ≡ true
  pub are_names : are_names last names ≡ true
  pub numbered_flags : are_numbered 0 flags ≡ true
  pub numbered_verbs : are_numbered_verbs (length (flat_map spelled_given flags)) verbs ≡ true

-- some command line begins with these words
pub record CanGoOn (words : List (List ℕ)) : Type 0 where
  pub following : List (List ℕ)
  pub flags : List Given
  pub verbs : List VerbWords
  pub names : List (List ℕ)
  pub is : IsLine (words ++ following) flags verbs names

-- The words are no command line: a line begins with the first `before` of them, and none with one more.
pub record IsRefusedAfter (words : List (List ℕ)) (before : ℕ) : Type 0 where
  pub within : before ≤ length words
  pub goes_on : CanGoOn (take before words)
  pub ends : before < length words → CanGoOn (take (before + 1) words) → ⊥
  pub none : (flags : List Given) (verbs : List VerbWords) (names : List (List ℕ)) → IsLine words flags verbs names → ⊥
