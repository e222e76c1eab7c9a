-- What options say, or a default where they aren't given.
use Rattle.std.specs.Prelude.{ℕ, ◌+◌, ◌-◌, ◌^◌, min, ℤ, pos, negsuc, if◌then◌else◌, List, [], ◌∷◌, codes, slice_index_or, Some, None}
use Rattle.std.specs.Str.{bytes_eq}
use Rattle.cli_grammar.specs.declared.given.Given.{Given}
use Rattle.cli_grammar.specs.declared.given.VerbWords.{VerbWords}
use Rattle.cli_grammar.specs.Numbers.{int_in}
use Rattle.cli_grammar.specs.Options.{last}
use Rattle.cli_grammar.specs.Separators.{separator_in}
use Rattle.cli_choices.specs.Names.{names_in}

-- a word of the verb's own; the empty word where there is none
abbrev pub own_word : ℕ → VerbWords → List ℕ
own_word place given = slice_index_or given.words place []

-- the word after an option; the empty word where there is none
abbrev pub argument_of : Given → List ℕ
argument_of given = elim given.argument [ Some word ↦ word | None ↦ [] ]

-- the word after the last option with this name
abbrev pub word_or : List ℕ → List ℕ → List Given → List ℕ
word_or default option options = elim (last option options) [ Some word ↦ word | None ↦ default ]

-- the names in the word after the last option with this name
abbrev pub names_after : List ℕ → List Given → List (List ℕ)
names_after option options = names_in (word_or [] option options)

-- a count, which isn't negative
abbrev pub count_of : ℕ → ℤ → ℕ
count_of default (pos n) = n
count_of default (negsuc n) = default

-- the count in a word
abbrev pub count_in : ℕ → List ℕ → ℕ
count_in default word = elim (int_in word) [ Some n ↦ count_of default n | None ↦ default ]

-- the count after the last option with this name
abbrev pub count_or : ℕ → List ℕ → List Given → ℕ
count_or default option options = elim (last option options) [ Some word ↦ count_in default word | None ↦ default ]

-- the whole number in a word
abbrev pub int_in_word : ℤ → List ℕ → ℤ
int_in_word default word = elim (int_in word) [ Some n ↦ n | None ↦ default ]

-- the whole number after the last option with this name
abbrev pub int_or : ℤ → List ℕ → List Given → ℤ
int_or default option options = elim (last option options) [ Some word ↦ int_in_word default word | None ↦ default ]

-- the separator that a word means
abbrev pub separator_in_word : List ℕ → List ℕ → List ℕ
separator_in_word default word = elim (separator_in word) [ Some text ↦ text | None ↦ default ]

-- the separator after the last option with this name
abbrev pub separator_or : List ℕ → List ℕ → List Given → List ℕ
separator_or default option options = elim (last option options) [ Some word ↦ separator_in_word default word | None ↦ default ]

-- the number of an option with this name, or else what came before
abbrev pub later_number : ℕ → List ℕ → Given → ℕ
later_number before name given = if bytes_eq given.name name then given.number else before

-- the number of the last option with this name
abbrev pub number_or : ℕ → List ℕ → List Given → ℕ
number_or before name [] = before
number_or before name (given ∷ options) = number_or (later_number before name given) name options

-- the number of the next word, which fits in 64 bits: no line has so many words that the bound is met
abbrev pub following : ℕ → ℕ
following number = min (number + 1) (2 ^ 64 - 1)

-- the number of the word after the last option with this name
abbrev pub number_after : List ℕ → List Given → ℕ
number_after option options = following (number_or 0 option options)
