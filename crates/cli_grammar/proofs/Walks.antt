-- A command line is read as it says.
use Rattle.std.proofs.Common.{◌≡◌, ℕ, ◌+◌, ◌≤◌, ◌<◌, Bool, true, false, List, [], ◌∷◌, ◌++◌, length, Option, Some, None, refl, ap, sym, ◌∙◌, append_assoc, arith}
use Rattle.std.specs.Prelude.{◌==◌, ◌&&◌, ◌||◌, not, codes, if◌then◌else◌, is_none}
use Rattle.std.specs.List.{flat_map, list_all}
use Rattle.std.specs.Str.{bytes_eq}
use Rattle.std.proofs.lemmas.Bool.{and_parts, eqb-true, lt-ltb, le-ltb}
use Rattle.std.proofs.lemmas.List.{append-nil, length-append}
use Rattle.mlr_event.specs.declared.refusal.Why.{Why}
use Rattle.mlr_event.specs.declared.refusal.Why.TheVariants.{UnknownFlag, NotBuilt, UnknownVerb}
use Rattle.mlr_tables.specs.Names.{verb_names}
use Rattle.mlr_tables.specs.Table.{row_of}
use Rattle.std.proofs.Math.Bool.{or-true}
use Rattle.cli_grammar.specs.declared.flag_table.Setting.{Setting}
use Rattle.cli_grammar.specs.declared.given.Given.{Given}
use Rattle.cli_grammar.specs.declared.given.VerbWords.{VerbWords}
use Rattle.cli_grammar.specs.declared.kind.Kind.{Kind}
use Rattle.cli_grammar.specs.declared.kind.Kind.TheVariants.{Nothing}
use Rattle.cli_grammar.specs.declared.line.Line.{Line}
use Rattle.cli_grammar.specs.declared.line.Next.{Next}
use Rattle.cli_grammar.specs.declared.line.Next.TheVariants as next
use Rattle.cli_grammar.specs.declared.line.Place.{Place}
use Rattle.cli_grammar.specs.declared.line.Place.TheVariants as place
use Rattle.cli_grammar.specs.declared.verb_table.VerbName.{VerbName}
use Rattle.cli_grammar.specs.Flags.{flag_named}
use Rattle.cli_grammar.specs.Grammar.{IsLine, are_names, are_numbered, are_numbered_verbs, begins_plainly, is_alone, is_flag, is_numbered_verb, is_option, is_verb, number_of_own, spelled_given, spelled_then, spelled_verb, suits}
use Rattle.cli_grammar.specs.Kinds.{fault_of}
use Rattle.cli_grammar.specs.Reading.{accepted, after, after_all_options, after_flag_name, after_name, after_then, at_end, at_verb_end, ended, first_word, has_required, is_dashed, kind_in, lacks_words, line_from, line_in, missing, name_at, refusal, refused, with_argument, with_option, with_word}
use Rattle.cli_grammar.specs.Verbs.{row_of_verb}
use Rattle.cli_grammar.proofs.Fits.{line_by}
use Rattle.cli_grammar.proofs.Rows.{plain-word, row-facts}

not-true : (t : Bool) → not t ≡ true → t ≡ false
not-true false is = refl
not-true true is = absurd (let e = is in cc)

-- the line after one word
pub step : (n : ℕ) (flags : List Given) (verbs : List VerbWords) (at : Place) (word : List ℕ) (words : List (List ℕ)) (to : Next) → after at (n + 1) word ≡ to
    → line_from n flags verbs at (word ∷ words) ≡ line_by (λ f v p. line_from (n + 1) f v p words) flags verbs (word ∷ words) to
step n flags verbs at word words to is = ap (line_by (λ f v p. line_from (n + 1) f v p words) flags verbs (word ∷ words)) is

alone-nothing : (kind : Kind) → is_alone kind ≡ true → kind ≡ Nothing
alone-nothing Nothing alone = refl
alone-nothing kind alone = absurd (let e = alone in cc)

flag-follows : (flag : Given) (kind : Kind) → is_alone kind ≡ false → after_flag_name flag kind ≡ next.Goes (place.FlagArgument flag kind)
flag-follows flag Nothing follows = absurd (let e = follows in cc)
flag-follows flag kind follows = refl

option-follows : (verb : VerbWords) (option : Given) (kind : Kind) → is_alone kind ≡ false → after_name verb option kind ≡ next.Goes (place.Argument verb option kind)
option-follows verb option Nothing follows = absurd (let e = follows in cc)
option-follows verb option kind follows = refl

-- a word that suits a kind
pub suited : (kind : Kind) (word : List ℕ) (alone : Bool) (o : Option Why) → (not alone && is_none o) ≡ true → (alone ≡ false) × (o ≡ None)
suited kind word true o is = absurd (let e = is in cc)
suited kind word false (Some why) is = absurd (let e = is in cc)
suited kind word false None is = (refl, refl)

-- what a name is, by its row
flag-row : (name : List ℕ) (argument : Option (List ℕ)) (o : Option (Kind × Setting)) → flag_named name ≡ o → (elim o [ Some row ↦ suits row.0 argument | None ↦ false ]) ≡ true
    → (kind : Kind) × ((setting : Setting) × ((flag_named name ≡ Some (kind, setting)) × (suits kind argument ≡ true)))
flag-row name argument None named is = absurd (let e = is in cc)
flag-row name argument (Some row) named is = (row.0, (row.1, (named, is)))

option-row : (options : List (List ℕ × Kind)) (name : List ℕ) (argument : Option (List ℕ)) (o : Option Kind) → kind_in options name ≡ o
    → (elim o [ Some kind ↦ suits kind argument | None ↦ false ]) ≡ true → (kind : Kind) × ((kind_in options name ≡ Some kind) × (suits kind argument ≡ true))
option-row options name argument None named is = absurd (let e = is in cc)
option-row options name argument (Some kind) named is = (kind, (named, is))

-- a flag with its argument
flag-named : (n : ℕ) (name : List ℕ) (kind : Kind) (setting : Setting) → flag_named name ≡ Some (kind, setting) → after place.Flags n name ≡ after_flag_name (name_at n name) kind
flag-named n name kind setting named =
    ap (λ o. elim o [ Some row ↦ after_flag_name (name_at n name) row.0 | None ↦ if is_dashed name then next.Refused None (refusal n UnknownFlag) else after_then n name ]) named

flag-walk : (n : ℕ) (flags : List Given) (verbs : List VerbWords) (number : ℕ) (name : List ℕ) (argument : Option (List ℕ)) (kind : Kind) (setting : Setting) (rest : List (List ℕ))
    → number ≡ n + 1 → flag_named name ≡ Some (kind, setting) → suits kind argument ≡ true
    → line_from n flags verbs place.Flags (spelled_given (record { number = number; name = name; argument = argument }) ++ rest)
    ≡ line_from (n + length (spelled_given (record { number = number; name = name; argument = argument }))) (flags ++ record { number = number; name = name; argument = argument } ∷ []) verbs place.Flags rest
flag-walk n flags verbs number name None kind setting rest is named fits =
    step n flags verbs place.Flags name rest (next.Flag (name_at (n + 1) name)) (flag-named (n + 1) name kind setting named ∙ ap (after_flag_name (name_at (n + 1) name)) (alone-nothing kind fits))
    ∙ ap (λ m. line_from (n + 1) (flags ++ record { number = m; name = name; argument = None } ∷ []) verbs place.Flags rest) (sym is)
flag-walk n flags verbs number name (Some word) kind setting rest is named fits =
    let fine = suited kind word (is_alone kind) (fault_of kind word) fits in
    step n flags verbs place.Flags name (word ∷ rest) (next.Goes (place.FlagArgument (name_at (n + 1) name) kind))
    (flag-named (n + 1) name kind setting named ∙ flag-follows (name_at (n + 1) name) kind fine.0)
    ∙ step (n + 1) flags verbs (place.FlagArgument (name_at (n + 1) name) kind) word rest (next.Flag (with_argument (name_at (n + 1) name) word))
    (ap (λ o. elim o [ Some why ↦ next.Refused None (refusal (n + 1 + 1) why) | None ↦ next.Flag (with_argument (name_at (n + 1) name) word) ]) fine.1)
    ∙ ap (λ m. line_from m (flags ++ with_argument (name_at (n + 1) name) word ∷ []) verbs place.Flags rest) (let e : n + 1 + 1 ≡ n + 2 = omega arith in e)
    ∙ ap (λ m. line_from (n + 2) (flags ++ record { number = m; name = name; argument = Some word } ∷ []) verbs place.Flags rest) (sym is)

pub flags-walk : (given : List Given) (n : ℕ) (flags : List Given) (verbs : List VerbWords) (rest : List (List ℕ)) → list_all is_flag given ≡ true → are_numbered n given ≡ true
    → line_from n flags verbs place.Flags (flat_map spelled_given given ++ rest) ≡ line_from (n + length (flat_map spelled_given given)) (flags ++ given) verbs place.Flags rest
flags-walk [] n flags verbs rest are numbered =
    ap (λ m. line_from m flags verbs place.Flags rest) (let e : n ≡ n + 0 = omega arith in e)
    ∙ ap (λ f. line_from (n + 0) f verbs place.Flags rest) (sym (append-nil flags))
flags-walk (flag ∷ given) n flags verbs rest are numbered =
    let fits = and_parts (is_flag flag) (list_all is_flag given) are in
    let numbers = and_parts (flag.number == n + 1) (are_numbered (n + length (spelled_given flag)) given) numbered in
    let found = flag-row flag.name flag.argument (flag_named flag.name) refl fits.0 in
    let both = length-append (spelled_given flag) (flat_map spelled_given given) in
    ap (line_from n flags verbs place.Flags) (append_assoc (spelled_given flag) (flat_map spelled_given given) rest)
    ∙ flag-walk n flags verbs flag.number flag.name flag.argument found.0 found.1.0 (flat_map spelled_given given ++ rest) (eqb-true flag.number (n + 1) numbers.0) found.1.1.0 found.1.1.1
    ∙ flags-walk given (n + length (spelled_given flag)) (flags ++ flag ∷ []) verbs rest fits.1 numbers.1
    ∙ ap (λ f. line_from (n + length (spelled_given flag) + length (flat_map spelled_given given)) f verbs place.Flags rest) (append_assoc flags (flag ∷ []) given)
    ∙ ap (λ m. line_from m (flags ++ (flag ∷ given)) verbs place.Flags rest)
    (let e : n + length (spelled_given flag) + length (flat_map spelled_given given) ≡ n + length (spelled_given flag ++ flat_map spelled_given given) = omega (arith, both) in e)

-- an option with its argument
option-named : (n : ℕ) (verb : VerbWords) (name : List ℕ) (kind : Kind) → kind_in (row_of_verb verb.verb).options name ≡ Some kind
    → after (place.Options verb) n name ≡ after_name verb (name_at n name) kind
option-named n verb name kind named =
    ap (λ o. elim o [ Some kind ↦ after_name verb (name_at n name) kind | None ↦ if is_dashed name then next.Refused (Some verb) (refusal n UnknownFlag) else after_all_options verb n name ]) named

pub option-walk : (n : ℕ) (flags : List Given) (verbs : List VerbWords) (verb : VerbWords) (number : ℕ) (name : List ℕ) (argument : Option (List ℕ)) (kind : Kind) (rest : List (List ℕ))
    → number ≡ n + 1 → kind_in (row_of_verb verb.verb).options name ≡ Some kind → suits kind argument ≡ true
    → line_from n flags verbs (place.Options verb) (spelled_given (record { number = number; name = name; argument = argument }) ++ rest)
    ≡ line_from (n + length (spelled_given (record { number = number; name = name; argument = argument }))) flags verbs
    (place.Options (with_option verb (record { number = number; name = name; argument = argument }))) rest
option-walk n flags verbs verb number name None kind rest is named fits =
    step n flags verbs (place.Options verb) name rest (next.Goes (place.Options (with_option verb (name_at (n + 1) name))))
    (option-named (n + 1) verb name kind named ∙ ap (after_name verb (name_at (n + 1) name)) (alone-nothing kind fits))
    ∙ ap (λ m. line_from (n + 1) flags verbs (place.Options (with_option verb (record { number = m; name = name; argument = None }))) rest) (sym is)
option-walk n flags verbs verb number name (Some word) kind rest is named fits =
    let fine = suited kind word (is_alone kind) (fault_of kind word) fits in
    step n flags verbs (place.Options verb) name (word ∷ rest) (next.Goes (place.Argument verb (name_at (n + 1) name) kind))
    (option-named (n + 1) verb name kind named ∙ option-follows verb (name_at (n + 1) name) kind fine.0)
    ∙ step (n + 1) flags verbs (place.Argument verb (name_at (n + 1) name) kind) word rest (next.Goes (place.Options (with_option verb (with_argument (name_at (n + 1) name) word))))
    (ap (λ o. elim o [ Some why ↦ next.Refused (Some verb) (refusal (n + 1 + 1) why) | None ↦ next.Goes (place.Options (with_option verb (with_argument (name_at (n + 1) name) word))) ]) fine.1)
    ∙ ap (λ m. line_from m flags verbs (place.Options (with_option verb (with_argument (name_at (n + 1) name) word))) rest) (let e : n + 1 + 1 ≡ n + 2 = omega arith in e)
    ∙ ap (λ m. line_from (n + 2) flags verbs (place.Options (with_option verb (record { number = m; name = name; argument = Some word }))) rest) (sym is)

pub options-walk : (given : List Given) (n : ℕ) (flags : List Given) (verbs : List VerbWords) (verb : VerbWords) (rest : List (List ℕ))
    → list_all (is_option (row_of_verb verb.verb).options) given ≡ true → are_numbered n given ≡ true
    → line_from n flags verbs (place.Options verb) (flat_map spelled_given given ++ rest)
    ≡ line_from (n + length (flat_map spelled_given given)) flags verbs (place.Options (record verb { options = verb.options ++ given })) rest
options-walk [] n flags verbs verb rest are numbered =
    ap (λ m. line_from m flags verbs (place.Options verb) rest) (let e : n ≡ n + 0 = omega arith in e)
    ∙ ap (λ options. line_from (n + 0) flags verbs (place.Options (record verb { options = options })) rest) (sym (append-nil verb.options))
options-walk (option ∷ given) n flags verbs verb rest are numbered =
    let fits = and_parts (is_option (row_of_verb verb.verb).options option) (list_all (is_option (row_of_verb verb.verb).options) given) are in
    let numbers = and_parts (option.number == n + 1) (are_numbered (n + length (spelled_given option)) given) numbered in
    let found = option-row (row_of_verb verb.verb).options option.name option.argument (kind_in (row_of_verb verb.verb).options option.name) refl fits.0 in
    let both = length-append (spelled_given option) (flat_map spelled_given given) in
    ap (line_from n flags verbs (place.Options verb)) (append_assoc (spelled_given option) (flat_map spelled_given given) rest)
    ∙ option-walk n flags verbs verb option.number option.name option.argument found.0 (flat_map spelled_given given ++ rest) (eqb-true option.number (n + 1) numbers.0) found.1.0 found.1.1
    ∙ options-walk given (n + length (spelled_given option)) flags verbs (with_option verb option) rest fits.1 numbers.1
    ∙ ap (λ options. line_from (n + length (spelled_given option) + length (flat_map spelled_given given)) flags verbs (place.Options (record verb { options = options })) rest)
    (append_assoc verb.options (option ∷ []) given)
    ∙ ap (λ m. line_from m flags verbs (place.Options (record verb { options = verb.options ++ (option ∷ given) })) rest)
    (let e : n + length (spelled_given option) + length (flat_map spelled_given given) ≡ n + length (spelled_given option ++ flat_map spelled_given given) = omega (arith, both) in e)

-- the words of a verb's own
pub words-walk : (own : List (List ℕ)) (n : ℕ) (flags : List Given) (verbs : List VerbWords) (verb : VerbWords) (rest : List (List ℕ))
    → length verb.words + length own ≤ length (row_of_verb verb.verb).words
    → line_from n flags verbs (place.Words verb) (own ++ rest) ≡ line_from (n + length own) flags verbs (place.Words (record verb { words = verb.words ++ own })) rest
words-walk [] n flags verbs verb rest within =
    ap (λ m. line_from m flags verbs (place.Words verb) rest) (let e : n ≡ n + 0 = omega arith in e)
    ∙ ap (λ words. line_from (n + 0) flags verbs (place.Words (record verb { words = words })) rest) (sym (append-nil verb.words))
words-walk (word ∷ own) n flags verbs verb rest within =
    let lacks : length verb.words < length (row_of_verb verb.verb).words = omega (arith, within) in
    let both = length-append verb.words (word ∷ []) in
    step n flags verbs (place.Words verb) word (own ++ rest) (next.Goes (place.Words (with_word verb word)))
    (ap (λ t. if t then next.Goes (place.Words (with_word verb word)) else ended verb word) (lt-ltb (length verb.words) (length (row_of_verb verb.verb).words) lacks))
    ∙ words-walk own (n + 1) flags verbs (with_word verb word) rest (let e : length (verb.words ++ word ∷ []) + length own ≤ length (row_of_verb verb.verb).words = omega (arith, both, within) in e)
    ∙ ap (λ words. line_from (n + 1 + length own) flags verbs (place.Words (record verb { words = words })) rest) (append_assoc verb.words (word ∷ []) own)
    ∙ ap (λ m. line_from m flags verbs (place.Words (record verb { words = verb.words ++ (word ∷ own) })) rest) (let e : n + 1 + length own ≡ n + length (word ∷ own) = omega arith in e)

-- a place after a verb that is complete
pub record Ended (verb : VerbWords) (at : Place) : Type 0 where
  pub goes : (n : ℕ) (word : List ℕ) → (not (length verb.words == 0) || not (is_dashed word)) ≡ true → after at n word ≡ ended verb word
  pub ends : (n : ℕ) (flags : List Given) (verbs : List VerbWords) → at_end n flags verbs at ≡ accepted flags (verbs ++ verb ∷ []) []

-- the first word after a verb with no words of its own has no dash
plain-of : (words : List (List ℕ)) (dashed : Bool) → words ≡ [] → (not (length words == 0) || not dashed) ≡ true → dashed ≡ false
plain-of words false none is = refl
plain-of [] true none is = absurd (let e = is in cc)
plain-of (word ∷ words) true none is = absurd (let e = none in cc)

verb-ends : (n : ℕ) (flags : List Given) (verbs : List VerbWords) (verb : VerbWords) → has_required verb ≡ true → lacks_words verb ≡ false
    → at_verb_end flags verbs verb ≡ accepted flags (verbs ++ verb ∷ []) []
verb-ends n flags verbs verb required lacks =
    ap (λ t. if t && not (lacks_words verb) then accepted flags (verbs ++ verb ∷ []) [] else refused flags verbs (Some verb) (missing verb)) required
    ∙ ap (λ t. if not t then accepted flags (verbs ++ verb ∷ []) [] else refused flags verbs (Some verb) (missing verb)) lacks

-- a word with no dash, after the options of a verb
pub plain-after : (verb : VerbWords) (n : ℕ) (word : List ℕ) → is_dashed word ≡ false → has_required verb ≡ true
    → after (place.Options verb) n word ≡ (if lacks_words verb then next.Goes (place.Words (first_word verb n word)) else ended verb word)
plain-after verb n word plain required =
    ap (λ o. elim o [ Some kind ↦ after_name verb (name_at n word) kind | None ↦ if is_dashed word then next.Refused (Some verb) (refusal n UnknownFlag) else after_all_options verb n word ])
    (plain-word verb.verb word plain)
    ∙ ap (λ t. if t then next.Refused (Some verb) (refusal n UnknownFlag) else after_all_options verb n word) plain
    ∙ ap (λ t. if not t then next.Refused (Some verb) (missing verb) else (if lacks_words verb then next.Goes (place.Words (first_word verb n word)) else ended verb word)) required

pub ended-options : (verb : VerbWords) → verb.words ≡ [] → has_required verb ≡ true → lacks_words verb ≡ false → Ended verb (place.Options verb)
ended-options verb none required lacks = record {
  goes = λ n word plain. plain-after verb n word (plain-of verb.words (is_dashed word) none plain) required
      ∙ ap (λ t. if t then next.Goes (place.Words (first_word verb n word)) else ended verb word) lacks;
  ends = λ n flags verbs. verb-ends n flags verbs verb required lacks;
}

pub ended-words : (verb : VerbWords) → has_required verb ≡ true → lacks_words verb ≡ false → Ended verb (place.Words verb)
ended-words verb required lacks = record {
  goes = λ n word plain. ap (λ t. if t then next.Goes (place.Words (with_word verb word)) else ended verb word) lacks;
  ends = λ n flags verbs. verb-ends n flags verbs verb required lacks;
}

-- a verb by its parts
built : (verb : VerbWords) (number own : ℕ) (words : List (List ℕ)) → verb.number ≡ number → verb.own ≡ own → verb.words ≡ words
    → record verb { number = number; own = own; words = words } ≡ verb
built verb number own words is_number is_own are =
    sym (ap (λ n. record verb { number = n }) is_number ∙ ap (λ o. record verb { number = number; own = o }) is_own
    ∙ ap (λ w. record verb { number = number; own = own; words = w }) are)

-- from a place where a verb's name is one
abbrev pub Begins : Place → Type 0
Begins at = (verb : VerbName) (n : ℕ) → after at n (row_of_verb verb).name ≡ after_then n (row_of_verb verb).name

pub verb-begins : Begins place.Verb
verb-begins verb n = refl

pub flags-begins : Begins place.Flags
flags-begins verb n =
    let name = (row_of_verb verb).name in
    ap (λ o. elim o [ Some row ↦ after_flag_name (name_at n name) row.0 | None ↦ if is_dashed name then next.Refused None (refusal n UnknownFlag) else after_then n name ]) (row-facts verb).1
    ∙ ap (λ t. if t then next.Refused None (refusal n UnknownFlag) else after_then n name) (row-facts verb).2

-- a verb before its options
abbrev pub bare : VerbName → ℕ → VerbWords
bare verb number = record { verb = verb; number = number; options = []; own = 0; words = [] }

pub name-walk : (n : ℕ) (flags : List Given) (verbs : List VerbWords) (at : Place) (verb : VerbName) (rest : List (List ℕ)) → Begins at
    → line_from n flags verbs at ((row_of_verb verb).name ∷ rest) ≡ line_from (n + 1) flags verbs (place.Options (bare verb (n + 1))) rest
name-walk n flags verbs at verb rest begins =
    let name = (row_of_verb verb).name in
    step n flags verbs at name rest (next.Goes (place.Options (bare verb (n + 1))))
    (begins verb (n + 1)
    ∙ ap (λ o. elim o [ Some v ↦ next.Goes (place.Options (bare v (n + 1))) | None ↦ elim (row_of name verb_names) [ Some row ↦ next.Refused None (refusal (n + 1) NotBuilt) | None ↦ next.Refused None (refusal (n + 1) UnknownVerb) ] ]) (row-facts verb).0)

opened-walk : (n : ℕ) (flags : List Given) (verbs : List VerbWords) (at : Place) (verb : VerbWords) (rest : List (List ℕ)) → Begins at
    → list_all (is_option (row_of_verb verb.verb).options) verb.options ≡ true → are_numbered (n + 1) verb.options ≡ true
    → line_from n flags verbs at (spelled_verb verb ++ rest)
    ≡ line_from (n + 1 + length (flat_map spelled_given verb.options)) flags verbs (place.Options (record (bare verb.verb (n + 1)) { options = verb.options })) (verb.words ++ rest)
opened-walk n flags verbs at verb rest begins are numbered =
    name-walk n flags verbs at verb.verb (flat_map spelled_given verb.options ++ verb.words ++ rest) begins
    ∙ ap (line_from (n + 1) flags verbs (place.Options (bare verb.verb (n + 1)))) (append_assoc (flat_map spelled_given verb.options) verb.words rest)
    ∙ options-walk verb.options (n + 1) flags verbs (bare verb.verb (n + 1)) (verb.words ++ rest) are numbered

-- what is known of a verb of a line
record Whole (n : ℕ) (verb : VerbWords) : Type 0 where
  pub options : list_all (is_option (row_of_verb verb.verb).options) verb.options ≡ true
  pub required : has_required verb ≡ true
  pub plainly : begins_plainly verb.words ≡ true
  pub all : length verb.words ≡ length (row_of_verb verb.verb).words
  pub number : verb.number ≡ n + 1
  pub numbered : are_numbered (n + 1) verb.options ≡ true
  pub own : verb.own ≡ number_of_own (n + 1 + length (flat_map spelled_given verb.options)) verb.words

whole-of : (n : ℕ) (verb : VerbWords) → is_verb verb ≡ true → is_numbered_verb n verb ≡ true → Whole n verb
whole-of n verb is numbered =
    let first = and_parts (list_all (is_option (row_of_verb verb.verb).options) verb.options) _ is in
    let second = and_parts (has_required verb) _ first.1 in
    let third = and_parts (begins_plainly verb.words) _ second.1 in
    let number = and_parts (verb.number == n + 1) _ numbered in
    let own = and_parts (are_numbered (n + 1) verb.options) _ number.1 in
    record {
      options = first.0;
      required = second.0;
      plainly = third.0;
      all = eqb-true (length verb.words) (length (row_of_verb verb.verb).words) third.1;
      number = eqb-true verb.number (n + 1) number.0;
      numbered = own.0;
      own = eqb-true verb.own (number_of_own (n + 1 + length (flat_map spelled_given verb.options)) verb.words) own.1;
    }

abbrev Walk : ℕ → List Given → List VerbWords → Place → VerbWords → Place → Type 0
Walk n flags verbs at verb to =
    (rest : List (List ℕ)) → line_from n flags verbs at (spelled_verb verb ++ rest) ≡ line_from (n + length (spelled_verb verb)) flags verbs to rest

-- the length of a verb's words
long : (verb : VerbWords) → length (spelled_verb verb) ≡ 1 + length (flat_map spelled_given verb.options) + length verb.words
long verb = let both = length-append (flat_map spelled_given verb.options) verb.words in omega (arith, both)

lacks-none : (verb : VerbWords) → length verb.words ≡ length (row_of_verb verb.verb).words → lacks_words verb ≡ false
lacks-none verb all = le-ltb (length verb.words) (length (row_of_verb verb.verb).words) (omega (arith, all))

verb-walk : (words : List (List ℕ)) (n : ℕ) (flags : List Given) (verbs : List VerbWords) (at : Place) (verb : VerbWords) → verb.words ≡ words → Whole n verb → Begins at
    → (to : Place) × (Ended verb to × Walk n flags verbs at verb to)
verb-walk [] n flags verbs at verb none is begins =
    let m = n + 1 + length (flat_map spelled_given verb.options) in
    let zero = ap (λ (words : List (List ℕ)). length words) none in
    let words = long verb in (
      place.Options verb,
      (
        ended-options verb none is.required (lacks-none verb is.all),
        λ rest.
            opened-walk n flags verbs at verb rest begins is.options is.numbered
            ∙ ap (λ w. line_from m flags verbs (place.Options (record (bare verb.verb (n + 1)) { options = verb.options })) (w ++ rest)) none
            ∙ ap (λ v. line_from m flags verbs (place.Options v) rest) (built verb (n + 1) 0 [] is.number (is.own ∙ ap (number_of_own m) none) none)
            ∙ ap (λ k. line_from k flags verbs (place.Options verb) rest) (let e : m ≡ n + length (spelled_verb verb) = omega (arith, zero, words) in e),
      ),
    )
verb-walk (word ∷ own) n flags verbs at verb are is begins =
    let m = n + 1 + length (flat_map spelled_given verb.options) in
    let size = ap (λ (words : List (List ℕ)). length words) are in
    let some : 1 + length own ≡ length verb.words = omega (arith, size) in
    let opened = record (bare verb.verb (n + 1)) { options = verb.options } in
    let words = long verb in
    let all = is.all in
    let plain : is_dashed word ≡ false = not-true (is_dashed word) (ap begins_plainly (sym are) ∙ is.plainly) in
    let below : 0 < length (row_of_verb verb.verb).words = omega (arith, all, some) in
    let within : 1 + length own ≤ length (row_of_verb verb.verb).words = omega (arith, all, some) in (
      place.Words verb,
      (
        ended-words verb is.required (lacks-none verb is.all),
        λ rest.
            opened-walk n flags verbs at verb rest begins is.options is.numbered
            ∙ ap (λ w. line_from m flags verbs (place.Options opened) (w ++ rest)) are
            ∙ step m flags verbs (place.Options opened) word (own ++ rest) (next.Goes (place.Words (first_word opened (m + 1) word)))
            (plain-after opened (m + 1) word plain is.required
            ∙ ap (λ t. if t then next.Goes (place.Words (first_word opened (m + 1) word)) else ended opened word) (lt-ltb 0 (length (row_of_verb verb.verb).words) below))
            ∙ words-walk own (m + 1) flags verbs (first_word opened (m + 1) word) rest within
            ∙ ap (λ v. line_from (m + 1 + length own) flags verbs (place.Words v) rest) (built verb (n + 1) (m + 1) (word ∷ own) is.number (is.own ∙ ap (number_of_own m) are) are)
            ∙ ap (λ k. line_from k flags verbs (place.Words verb) rest) (let e : m + 1 + length own ≡ n + length (spelled_verb verb) = omega (arith, some, words) in e),
      ),
    )

-- file names, or the end
pub names-walk : (names : List (List ℕ)) (n : ℕ) (flags : List Given) (verbs : List VerbWords) (verb : VerbWords) (at : Place) → Ended verb at → are_names verb names ≡ true
    → line_from n flags verbs at names ≡ accepted flags (verbs ++ verb ∷ []) names
names-walk [] n flags verbs verb at is are = is.ends (n + 1) flags verbs
names-walk (name ∷ names) n flags verbs verb at is are =
    let parts = and_parts (not (bytes_eq name (codes "then"))) _ are in
    step n flags verbs at name names (next.Names verb)
    (is.goes (n + 1) name parts.1 ∙ ap (λ t. if t then next.Then verb else next.Names verb) (not-true (bytes_eq name (codes "then")) parts.0))

-- the verbs
verbs-walk : (before : List VerbWords) (last : VerbWords) (names : List (List ℕ)) (n : ℕ) (flags : List Given) (verbs : List VerbWords) (at : Place)
    → list_all is_verb (before ++ last ∷ []) ≡ true → are_numbered_verbs n (before ++ last ∷ []) ≡ true → are_names last names ≡ true → Begins at
    → line_from n flags verbs at (flat_map spelled_then before ++ (spelled_verb last ++ names)) ≡ accepted flags (verbs ++ (before ++ last ∷ [])) names
verbs-walk [] last names n flags verbs at are numbered are_names begins =
    let is = and_parts (is_verb last) true are in
    let number = and_parts (is_numbered_verb n last) true numbered in
    let walk = verb-walk last.words n flags verbs at last refl (whole-of n last is.0 number.0) begins in
    walk.1.1 names ∙ names-walk names (n + length (spelled_verb last)) flags verbs last walk.0 walk.1.0 are_names
verbs-walk (verb ∷ before) last names n flags verbs at are numbered are_names begins =
    let is = and_parts (is_verb verb) (list_all is_verb (before ++ last ∷ [])) are in
    let number = and_parts (is_numbered_verb n verb) (are_numbered_verbs (n + length (spelled_then verb)) (before ++ last ∷ [])) numbered in
    let walk = verb-walk verb.words n flags verbs at verb refl (whole-of n verb is.0 number.0) begins in
    let later = flat_map spelled_then before ++ (spelled_verb last ++ names) in
    let m = n + length (spelled_verb verb) in
    let both = length-append (spelled_verb verb) (codes "then" ∷ []) in
    ap (line_from n flags verbs at) (append_assoc (spelled_then verb) (flat_map spelled_then before) (spelled_verb last ++ names) ∙ append_assoc (spelled_verb verb) (codes "then" ∷ []) later)
    ∙ walk.1.1 (codes "then" ∷ later)
    ∙ step m flags verbs walk.0 (codes "then") later (next.Then verb) (walk.1.0.goes (m + 1) (codes "then") (or-true (not (length verb.words == 0))))
    ∙ ap (λ k. line_from k flags (verbs ++ verb ∷ []) place.Verb later) (let e : m + 1 ≡ n + length (spelled_then verb) = omega (arith, both) in e)
    ∙ verbs-walk before last names (n + length (spelled_then verb)) flags (verbs ++ verb ∷ []) place.Verb is.1 number.1 are_names verb-begins
    ∙ ap (λ vs. accepted flags vs names) (append_assoc verbs (verb ∷ []) (before ++ last ∷ []))

-- a command line is read as it says
pub found : (words : List (List ℕ)) (flags : List Given) (verbs : List VerbWords) (names : List (List ℕ)) → IsLine words flags verbs names → line_in words ≡ accepted flags verbs names
found words flags verbs names is =
    let f = flat_map spelled_given flags in
    let v = flat_map spelled_then is.before in
    let rest = v ++ (spelled_verb is.last ++ names) in
    ap line_in (is.words_are ∙ append_assoc (f ++ v) (spelled_verb is.last) names ∙ append_assoc f v (spelled_verb is.last ++ names))
    ∙ flags-walk flags 0 [] [] rest is.are_flags is.numbered_flags
    ∙ ap (λ n. line_from n flags [] place.Flags rest) (let e : 0 + length f ≡ length f = omega arith in e)
    ∙ verbs-walk is.before is.last names (length f) flags [] place.Flags (ap (list_all is_verb) (sym is.verbs_are) ∙ is.are_verbs)
    (ap (are_numbered_verbs (length f)) (sym is.verbs_are) ∙ is.numbered_verbs) is.are_names flags-begins
    ∙ ap (λ vs. accepted flags vs names) (sym is.verbs_are)

-- two lines with the same words are equal
pub one : (words : List (List ℕ)) (flags other : List Given) (verbs more : List VerbWords) (names rest : List (List ℕ)) → IsLine words flags verbs names → IsLine words other more rest
    → (flags ≡ other) × (verbs ≡ more) × (names ≡ rest)
one words flags other verbs more names rest is also =
    let same = sym (found words flags verbs names is) ∙ found words other more rest also in
    (ap (λ (line : Line). line.flags) same, ap (λ (line : Line). line.verbs) same, ap (λ (line : Line). line.names) same)
