-- The flags and the complete verbs of a line fit their rows.
use Rattle.std.proofs.Common.{◌≡◌, ℕ, ◌+◌, ◌≤◌, Bool, true, false, List, [], ◌∷◌, ◌++◌, length, Option, Some, None, refl, ap, sym, ◌∙◌, subst, arith}
use Rattle.std.specs.Prelude.{◌&&◌, not, codes, if◌then◌else◌}
use Rattle.std.specs.List.{list_all}
use Rattle.std.specs.Str.{bytes_eq}
use Rattle.std.proofs.lemmas.Bool.{and_from, eq-eqb, ltb-false, ltb-true}
use Rattle.std.proofs.lemmas.List.{length-append}
use Rattle.std.proofs.lemmas.List.Folds.{list_all-append}
use Rattle.mlr_tables.specs.Names.{verb_names}
use Rattle.mlr_tables.specs.Table.{row_of}
use Rattle.mlr_event.specs.declared.refusal.Why.{Why}
use Rattle.mlr_event.specs.declared.refusal.Why.TheVariants.{UnknownFlag, NotBuilt, UnknownVerb}
use Rattle.cli_grammar.specs.declared.flag_table.Setting.{Setting}
use Rattle.cli_grammar.specs.declared.given.Given.{Given}
use Rattle.cli_grammar.specs.declared.given.VerbWords.{VerbWords}
use Rattle.cli_grammar.specs.declared.kind.Kind.{Kind}
use Rattle.cli_grammar.specs.declared.kind.Kind.TheVariants.{Nothing}
use Rattle.cli_grammar.specs.declared.line.Line.{Line}
use Rattle.cli_grammar.specs.declared.line.Next.{Next}
use Rattle.cli_grammar.specs.declared.line.Next.TheVariants as next
use Rattle.cli_grammar.specs.declared.line.Place.{Place}
use Rattle.cli_grammar.specs.declared.line.Place.TheVariants as place
use Rattle.cli_grammar.specs.declared.verb_table.VerbName.{VerbName}
use Rattle.cli_grammar.specs.Flags.{flag_named}
use Rattle.cli_grammar.specs.Grammar.{begins_plainly, is_alone, is_flag, is_option, is_verb, suits}
use Rattle.cli_grammar.specs.Kinds.{fault_of}
use Rattle.cli_grammar.specs.Reading.{accepted, after, missing, after_all_options, after_flag_name, after_name, after_then, at_end, ended, first_word, has_required, is_complete, is_dashed, kind_in, lacks_words, line_from, name_at, refusal, refused, with_argument, with_option, with_word}
use Rattle.cli_grammar.specs.Verbs.{row_of_verb, verb_named}

-- a name of a flag or an option, after which a word of this kind follows
pub record IsName (given : Given) (kind : Kind) : Type 0 where
  pub bare : given.argument ≡ None
  pub follows : is_alone kind ≡ false

-- the options of a verb are those of its row
abbrev pub HasOptions : VerbWords → Type 0
HasOptions verb = list_all (is_option (row_of_verb verb.verb).options) verb.options ≡ true

-- a verb whose own words have begun
pub record HasWords (verb : VerbWords) : Type 0 where
  pub options : HasOptions verb
  pub required : has_required verb ≡ true
  pub plainly : begins_plainly verb.words ≡ true
  pub within : length verb.words ≤ length (row_of_verb verb.verb).words

-- what is known at a place
abbrev pub Fits : Place → Type 0
Fits place.Flags = Unit {0}
Fits (place.FlagArgument flag kind) = IsName flag kind × ((setting : Setting) × (flag_named flag.name ≡ Some (kind, setting)))
Fits place.Verb = Unit {0}
Fits (place.Options verb) = HasOptions verb × (verb.words ≡ [])
Fits (place.Argument verb option kind) =
    HasOptions verb × (verb.words ≡ []) × IsName option kind × (kind_in (row_of_verb verb.verb).options option.name ≡ Some kind)
Fits (place.Words verb) = HasWords verb × (verb.words ≡ [] → ⊥)

abbrev pub NextFits : Next → Type 0
NextFits (next.Goes to) = Fits to
NextFits (next.Flag flag) = is_flag flag ≡ true
NextFits (next.Then verb) = is_verb verb ≡ true
NextFits (next.Names verb) = is_verb verb ≡ true
NextFits (next.Refused partial why) = Unit {0}

-- one more element that passes a test
pub all-more : {X : Type 0} (p : X → Bool) (xs : List X) (x : X) → list_all p xs ≡ true → p x ≡ true → list_all p (xs ++ x ∷ []) ≡ true
all-more p xs x all one = list_all-append p xs (x ∷ []) ∙ and_from (list_all p xs) (list_all p (x ∷ [])) all (and_from (p x) true one refl)

-- a word of the kind that its name wants
pub suits-word : (kind : Kind) (word : List ℕ) → is_alone kind ≡ false → fault_of kind word ≡ None → suits kind (Some word) ≡ true
suits-word kind word follows fine = rw (follows, fine) refl

flag-suits : (given : Given) (kind : Kind) (setting : Setting) → flag_named given.name ≡ Some (kind, setting) → is_flag given ≡ suits kind given.argument
flag-suits given kind setting named = ap (λ o. elim o [ Some row ↦ suits row.0 given.argument | None ↦ false ]) named

option-suits : (options : List (List ℕ × Kind)) (given : Given) (kind : Kind) → kind_in options given.name ≡ Some kind → is_option options given ≡ suits kind given.argument
option-suits options given kind named = ap (λ o. elim o [ Some kind ↦ suits kind given.argument | None ↦ false ]) named

-- a word where a verb must follow
not-verb-fits : {A : Type 0} (n : ℕ) (o : Option A) → NextFits (elim o [ Some row ↦ next.Refused None (refusal n NotBuilt) | None ↦ next.Refused None (refusal n UnknownVerb) ])
not-verb-fits n (Some row) = tt
not-verb-fits n None = tt

verb-fits : (n : ℕ) (word : List ℕ) (o : Option VerbName) (other : Next) → NextFits other
    → NextFits (elim o [ Some verb ↦ next.Goes (place.Options (record { verb = verb; number = n; options = []; own = 0; words = [] })) | None ↦ other ])
verb-fits n word (Some verb) other fits = (refl, refl)
verb-fits n word None other fits = fits

then-fits : (n : ℕ) (word : List ℕ) → NextFits (after_then n word)
then-fits n word = verb-fits n word (verb_named word) (elim (row_of word verb_names) [ Some row ↦ next.Refused None (refusal n NotBuilt) | None ↦ next.Refused None (refusal n UnknownVerb) ])
    (not-verb-fits n (row_of word verb_names))

-- the name of a flag
flag-name-fits : (n : ℕ) (word : List ℕ) (kind : Kind) (setting : Setting) → flag_named word ≡ Some (kind, setting) → NextFits (after_flag_name (name_at n word) kind)
flag-name-fits n word Nothing setting named = flag-suits (name_at n word) Nothing setting named
flag-name-fits n word kind setting named = (record { bare = refl; follows = refl }, (setting, named))

flags-fits : (n : ℕ) (word : List ℕ) (o : Option (Kind × Setting)) (dashed : Bool) → flag_named word ≡ o
    → NextFits (elim o [ Some row ↦ after_flag_name (name_at n word) row.0 | None ↦ if dashed then next.Refused None (refusal n UnknownFlag) else after_then n word ])
flags-fits n word (Some row) dashed named = flag-name-fits n word row.0 row.1 named
flags-fits n word None true named = tt
flags-fits n word None false named = then-fits n word

flag-fits : (flag : Given) (kind : Kind) (setting : Setting) (n : ℕ) (word : List ℕ) (o : Option Why) → fault_of kind word ≡ o → IsName flag kind
    → flag_named flag.name ≡ Some (kind, setting)
    → NextFits (elim o [ Some why ↦ next.Refused None (refusal n why) | None ↦ next.Flag (with_argument flag word) ])
flag-fits flag kind setting n word (Some why) fault is named = tt
flag-fits flag kind setting n word None fault is named =
    flag-suits (with_argument flag word) kind setting named ∙ suits-word kind word is.follows fault

-- a verb that is complete
ended-fits : (verb : VerbWords) (word : List ℕ) (t : Bool) → is_verb verb ≡ true → NextFits (if t then next.Then verb else next.Names verb)
ended-fits verb word true is = is
ended-fits verb word false is = is

whole : (verb : VerbWords) → HasWords verb → lacks_words verb ≡ false → is_verb verb ≡ true
whole verb has lacks =
    let n = length (row_of_verb verb.verb).words in
    let least : n ≤ length verb.words = ltb-false (length verb.words) n lacks in
    let same : length verb.words ≡ n = omega (arith, has.within, least) in
    and_from (list_all (is_option (row_of_verb verb.verb).options) verb.options) _ has.options
    (and_from (has_required verb) _ has.required (and_from (begins_plainly verb.words) _ has.plainly (eq-eqb (length verb.words) n same)))

-- the name of an option
name-fits : (verb : VerbWords) (n : ℕ) (word : List ℕ) (kind : Kind) → HasOptions verb → verb.words ≡ [] → kind_in (row_of_verb verb.verb).options word ≡ Some kind
    → NextFits (after_name verb (name_at n word) kind)
name-fits verb n word Nothing has none named =
    (all-more (is_option (row_of_verb verb.verb).options) verb.options (name_at n word) has (option-suits (row_of_verb verb.verb).options (name_at n word) Nothing named), none)
name-fits verb n word kind has none named = (has, none, record { bare = refl; follows = refl }, named)

no-words : (verb : VerbWords) → HasOptions verb → verb.words ≡ [] → has_required verb ≡ true → HasWords verb
no-words verb has none required = record {
  options = has;
  required = required;
  plainly = ap begins_plainly none;
  within = let e : 0 ≤ length (row_of_verb verb.verb).words = omega arith in subst (λ words. length words ≤ length (row_of_verb verb.verb).words) (sym none) e;
}

not-empty : (words : List (List ℕ)) (word : List ℕ) → words ++ word ∷ [] ≡ [] → ⊥
not-empty [] word is = let e = is in cc
not-empty (first ∷ words) word is = let e = is in cc

one-more : (verb : VerbWords) (word : List ℕ) → lacks_words verb ≡ true → length (verb.words ++ word ∷ []) ≤ length (row_of_verb verb.verb).words
one-more verb word lacks =
    let least = ltb-true (length verb.words) (length (row_of_verb verb.verb).words) lacks in
    let more = length-append verb.words (word ∷ []) in
    omega (arith, least, more)

first-fits : (verb : VerbWords) (n : ℕ) (word : List ℕ) → HasOptions verb → verb.words ≡ [] → has_required verb ≡ true → lacks_words verb ≡ true → is_dashed word ≡ false
    → Fits (place.Words (first_word verb n word))
first-fits verb n word has none required lacks plain = (
  record {
    options = has;
    required = required;
    plainly = ap (λ words. begins_plainly (words ++ word ∷ [])) none ∙ ap not plain;
    within = one-more verb word lacks;
  },
  not-empty verb.words word,
)

all-options-fit : (verb : VerbWords) (n : ℕ) (word : List ℕ) (required lacks : Bool) → has_required verb ≡ required → lacks_words verb ≡ lacks → HasOptions verb → verb.words ≡ []
    → is_dashed word ≡ false
    → NextFits (if not required then next.Refused (Some verb) (missing verb) else (if lacks then next.Goes (place.Words (first_word verb n word)) else ended verb word))
all-options-fit verb n word false lacks is_required is_lacks has none plain = tt
all-options-fit verb n word true true is_required is_lacks has none plain = first-fits verb n word has none is_required is_lacks plain
all-options-fit verb n word true false is_required is_lacks has none plain =
    ended-fits verb word (bytes_eq word (codes "then")) (whole verb (no-words verb has none is_required) is_lacks)

options-fit : (verb : VerbWords) (n : ℕ) (word : List ℕ) (o : Option Kind) (dashed : Bool) → kind_in (row_of_verb verb.verb).options word ≡ o → is_dashed word ≡ dashed
    → HasOptions verb → verb.words ≡ []
    → NextFits (elim o [ Some kind ↦ after_name verb (name_at n word) kind | None ↦ if dashed then next.Refused (Some verb) (refusal n UnknownFlag) else after_all_options verb n word ])
options-fit verb n word (Some kind) dashed named is_dashed has none = name-fits verb n word kind has none named
options-fit verb n word None true named is_dashed has none = tt
options-fit verb n word None false named is_dashed has none =
    all-options-fit verb n word (has_required verb) (lacks_words verb) refl refl has none is_dashed

-- the argument of an option
option-fits : (verb : VerbWords) (option : Given) (kind : Kind) (n : ℕ) (word : List ℕ) (o : Option Why) → fault_of kind word ≡ o → HasOptions verb → verb.words ≡ [] → IsName option kind
    → kind_in (row_of_verb verb.verb).options option.name ≡ Some kind
    → NextFits (elim o [ Some why ↦ next.Refused (Some verb) (refusal n why) | None ↦ next.Goes (place.Options (with_option verb (with_argument option word))) ])
option-fits verb option kind n word (Some why) fault has none is named = tt
option-fits verb option kind n word None fault has none is named =
    let options = (row_of_verb verb.verb).options in (
      all-more (is_option options) verb.options (with_argument option word) has
          (option-suits options (with_argument option word) kind named ∙ suits-word kind word is.follows fault),
      none,
    )

-- a word of a verb's own
plainly-more : (words : List (List ℕ)) (word : List ℕ) → (words ≡ [] → ⊥) → begins_plainly words ≡ true → begins_plainly (words ++ word ∷ []) ≡ true
plainly-more [] word some plain = absurd (some refl)
plainly-more (first ∷ words) word some plain = plain

words-fit : (verb : VerbWords) (word : List ℕ) (lacks : Bool) → lacks_words verb ≡ lacks → HasWords verb → (verb.words ≡ [] → ⊥)
    → NextFits (if lacks then next.Goes (place.Words (with_word verb word)) else ended verb word)
words-fit verb word true is_lacks has some = (
  record {
    options = has.options;
    required = has.required;
    plainly = plainly-more verb.words word some has.plainly;
    within = one-more verb word is_lacks;
  },
  not-empty verb.words word,
)
words-fit verb word false is_lacks has some = ended-fits verb word (bytes_eq word (codes "then")) (whole verb has is_lacks)

-- a step keeps what is known
pub after-fits : (at : Place) (n : ℕ) (word : List ℕ) → Fits at → NextFits (after at n word)
after-fits place.Flags n word fits = flags-fits n word (flag_named word) (is_dashed word) refl
after-fits (place.FlagArgument flag kind) n word fits = flag-fits flag kind fits.1.0 n word (fault_of kind word) refl fits.0 fits.1.1
after-fits place.Verb n word fits = then-fits n word
after-fits (place.Options verb) n word fits = options-fit verb n word (kind_in (row_of_verb verb.verb).options word) (is_dashed word) refl refl fits.0 fits.1
after-fits (place.Argument verb option kind) n word fits = option-fits verb option kind n word (fault_of kind word) refl fits.0 fits.1 fits.2 fits.3
after-fits (place.Words verb) n word fits = words-fit verb word (lacks_words verb) refl fits.0 fits.1

-- what is known of a line
abbrev pub LineFits : Line → Type 0
LineFits line = (list_all is_flag line.flags ≡ true) × (list_all is_verb line.verbs ≡ true)

-- the line after one word, by what the word is
abbrev pub line_by : (List Given → List VerbWords → Place → Line) → List Given → List VerbWords → List (List ℕ) → Next → Line
line_by go flags verbs words (next.Goes to) = go flags verbs to
line_by go flags verbs words (next.Flag flag) = go (flags ++ flag ∷ []) verbs place.Flags
line_by go flags verbs words (next.Then verb) = go flags (verbs ++ verb ∷ []) place.Verb
line_by go flags verbs words (next.Names verb) = accepted flags (verbs ++ verb ∷ []) words
line_by go flags verbs words (next.Refused partial why) = refused flags verbs partial why

next-line-fits : (go : List Given → List VerbWords → Place → Line)
    → ((flags : List Given) (verbs : List VerbWords) (at : Place) → list_all is_flag flags ≡ true → list_all is_verb verbs ≡ true → Fits at → LineFits (go flags verbs at))
    → (flags : List Given) (verbs : List VerbWords) (words : List (List ℕ)) (to : Next) → list_all is_flag flags ≡ true → list_all is_verb verbs ≡ true → NextFits to
    → LineFits (line_by go flags verbs words to)
next-line-fits go fit flags verbs words (next.Goes to) are are_verbs fits = fit flags verbs to are are_verbs fits
next-line-fits go fit flags verbs words (next.Flag flag) are are_verbs fits =
    fit (flags ++ flag ∷ []) verbs place.Flags (all-more is_flag flags flag are fits) are_verbs tt
next-line-fits go fit flags verbs words (next.Then verb) are are_verbs fits =
    fit flags (verbs ++ verb ∷ []) place.Verb are (all-more is_verb verbs verb are_verbs fits) tt
next-line-fits go fit flags verbs words (next.Names verb) are are_verbs fits = (are, all-more is_verb verbs verb are_verbs fits)
next-line-fits go fit flags verbs words (next.Refused partial why) are are_verbs fits = (are, are_verbs)

verb-end-fits : (flags : List Given) (verbs : List VerbWords) (verb : VerbWords) (t : Bool) → list_all is_flag flags ≡ true → list_all is_verb verbs ≡ true
    → (t ≡ true → is_verb verb ≡ true)
    → LineFits (if t then accepted flags (verbs ++ verb ∷ []) [] else refused flags verbs (Some verb) (missing verb))
verb-end-fits flags verbs verb true are are_verbs is = (are, all-more is_verb verbs verb are_verbs (is refl))
verb-end-fits flags verbs verb false are are_verbs is = (are, are_verbs)

pub complete-options : (verb : VerbWords) (required lacks : Bool) → has_required verb ≡ required → lacks_words verb ≡ lacks → HasOptions verb → verb.words ≡ [] → (required && not lacks) ≡ true
    → is_verb verb ≡ true
complete-options verb true false required lacks has none complete = whole verb (no-words verb has none required) lacks
complete-options verb true true required lacks has none complete = absurd (let e = complete in cc)
complete-options verb false lacks is_required is_lacks has none complete = absurd (let e = complete in cc)

pub complete-words : (verb : VerbWords) (required lacks : Bool) → lacks_words verb ≡ lacks → HasWords verb → (required && not lacks) ≡ true → is_verb verb ≡ true
complete-words verb true false lacks has complete = whole verb has lacks
complete-words verb true true lacks has complete = absurd (let e = complete in cc)
complete-words verb false lacks is_lacks has complete = absurd (let e = complete in cc)

end-fits : (n : ℕ) (flags : List Given) (verbs : List VerbWords) (at : Place) → list_all is_flag flags ≡ true → list_all is_verb verbs ≡ true → Fits at → LineFits (at_end n flags verbs at)
end-fits n flags verbs place.Flags are are_verbs fits = (are, are_verbs)
end-fits n flags verbs (place.FlagArgument flag kind) are are_verbs fits = (are, are_verbs)
end-fits n flags verbs place.Verb are are_verbs fits = (are, are_verbs)
end-fits n flags verbs (place.Options verb) are are_verbs fits =
    verb-end-fits flags verbs verb (is_complete verb) are are_verbs (complete-options verb (has_required verb) (lacks_words verb) refl refl fits.0 fits.1)
end-fits n flags verbs (place.Argument verb option kind) are are_verbs fits = (are, are_verbs)
end-fits n flags verbs (place.Words verb) are are_verbs fits =
    verb-end-fits flags verbs verb (is_complete verb) are are_verbs (complete-words verb (has_required verb) (lacks_words verb) refl fits.0)

pub line-fits : (words : List (List ℕ)) (n : ℕ) (flags : List Given) (verbs : List VerbWords) (at : Place) → list_all is_flag flags ≡ true → list_all is_verb verbs ≡ true → Fits at
    → LineFits (line_from n flags verbs at words)
line-fits [] n flags verbs at are are_verbs fits = end-fits (n + 1) flags verbs at are are_verbs fits
line-fits (word ∷ words) n flags verbs at are are_verbs fits =
    next-line-fits (λ f v p. line_from (n + 1) f v p words) (λ f v p. line-fits words (n + 1) f v p) flags verbs (word ∷ words) (after at (n + 1) word) are are_verbs (after-fits at (n + 1) word fits)
