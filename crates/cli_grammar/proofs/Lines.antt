-- Words that are read as a line are one, with the flags, verbs and file names that were read.
use Rattle.std.proofs.Common.{◌≡◌, ℕ, ◌+◌, Bool, true, false, List, [], ◌∷◌, ◌++◌, length, Option, Some, None, refl, ap, sym, ◌∙◌, subst, append_assoc, arith}
use Rattle.std.specs.Prelude.{◌==◌, ◌||◌, not, codes, if◌then◌else◌}
use Rattle.std.specs.List.{flat_map, list_all}
use Rattle.std.specs.Str.{bytes_eq}
use Rattle.std.proofs.lemmas.Bool.{and_from, and_parts, eq-eqb, ne_eqb}
use Rattle.std.proofs.lemmas.List.{append-nil, length-append}
use Rattle.std.proofs.lemmas.Grind.{flat_map-append}
use Rattle.std.proofs.lemmas.Slice.Eq.{bytes_eq-Decides}
use Rattle.std.proofs.Math.Bool.{or-true}
use Rattle.mlr_tables.specs.Names.{verb_names}
use Rattle.mlr_tables.specs.Table.{row_of}
use Rattle.mlr_event.specs.declared.refusal.Why.{Why}
use Rattle.mlr_event.specs.declared.refusal.Why.TheVariants.{UnknownFlag, NotBuilt, UnknownVerb}
use Rattle.cli_grammar.specs.declared.flag_table.Setting.{Setting}
use Rattle.cli_grammar.specs.declared.verb_table.VerbName.{VerbName}
use Rattle.cli_grammar.specs.Flags.{flag_named}
use Rattle.cli_grammar.specs.declared.given.Given.{Given}
use Rattle.cli_grammar.specs.declared.given.VerbWords.{VerbWords}
use Rattle.cli_grammar.specs.declared.kind.Kind.{Kind}
use Rattle.cli_grammar.specs.declared.kind.Kind.TheVariants.{Nothing}
use Rattle.cli_grammar.specs.declared.line.Line.{Line}
use Rattle.cli_grammar.specs.declared.line.Next.{Next}
use Rattle.cli_grammar.specs.declared.line.Next.TheVariants as next
use Rattle.cli_grammar.specs.declared.line.Place.{Place}
use Rattle.cli_grammar.specs.declared.line.Place.TheVariants as place
use Rattle.cli_grammar.specs.Grammar.{IsLine, are_names, are_numbered, are_numbered_verbs, is_flag, is_numbered_verb, is_verb, number_of_own, spelled_given, spelled_then, spelled_verb}
use Rattle.cli_grammar.specs.Kinds.{fault_of}
use Rattle.cli_grammar.specs.Reading.{accepted, after, after_flag_name, after_name, after_then, at_end, ended, first_word, has_required, is_complete, is_dashed, kind_in, lacks_words, line_from, line_in, missing, name_at, refusal, refused, with_argument, with_option, with_word}
use Rattle.cli_grammar.specs.Verbs.{all_verbs, named_among, row_of_verb, verb_named}
use Rattle.cli_grammar.proofs.Fits.{Fits, NextFits, after-fits, all-more, complete-options, complete-words, line_by}

-- the words of flags, and of verbs before `then`
abbrev pub start : List Given → List VerbWords → List (List ℕ)
start flags verbs = flat_map spelled_given flags ++ flat_map spelled_then verbs

-- the words of a verb have their numbers, where `n` words precede them
pub record Numbered (n : ℕ) (verb : VerbWords) : Type 0 where
  pub number : verb.number ≡ n + 1
  pub options : are_numbered (n + 1) verb.options ≡ true
  pub own : verb.own ≡ number_of_own (n + 1 + length (flat_map spelled_given verb.options)) verb.words

-- the words so far, after those of the flags and verbs that are complete
abbrev pub At : List VerbWords → List (List ℕ) → List (List ℕ) → Place → Type 0
At verbs first done place.Flags = (verbs ≡ []) × (done ≡ first)
At verbs first done (place.FlagArgument flag kind) = (verbs ≡ []) × (done ≡ first ++ flag.name ∷ []) × (flag.number ≡ length first + 1)
At verbs first done place.Verb = done ≡ first
At verbs first done (place.Options verb) = (done ≡ first ++ spelled_verb verb) × Numbered (length first) verb
At verbs first done (place.Argument verb option kind) =
    (done ≡ first ++ spelled_verb verb ++ option.name ∷ []) × Numbered (length first) verb × (option.number ≡ length (first ++ spelled_verb verb) + 1)
At verbs first done (place.Words verb) = (done ≡ first ++ spelled_verb verb) × Numbered (length first) verb

abbrev pub NextAt : List VerbWords → List (List ℕ) → List (List ℕ) → List ℕ → Next → Type 0
NextAt verbs first done word (next.Goes to) = At verbs first (done ++ word ∷ []) to
NextAt verbs first done word (next.Flag flag) = (verbs ≡ []) × (done ++ word ∷ [] ≡ first ++ spelled_given flag) × (flag.number ≡ length first + 1)
NextAt verbs first done word (next.Then verb) = (done ++ word ∷ [] ≡ first ++ spelled_then verb) × Numbered (length first) verb
NextAt verbs first done word (next.Names verb) =
    (done ≡ first ++ spelled_verb verb) × Numbered (length first) verb × ((words : List (List ℕ)) → are_names verb (word ∷ words) ≡ true)
NextAt verbs first done word (next.Refused partial why) = Unit {0}

joined : (all some more words : List (List ℕ)) → words ≡ [] → all ≡ some ++ more → all ++ words ≡ some ++ words ++ more
joined all some more words none is =
    ap (λ words. all ++ words) none ∙ append-nil all ∙ is ∙ ap (λ words. words ++ more) (sym (append-nil some)) ∙ ap (λ words. some ++ words ++ more) (sym none)

-- one more option, and one more word, of a verb
spelled-option : (verb : VerbWords) (option : Given) → verb.words ≡ [] → spelled_verb (with_option verb option) ≡ spelled_verb verb ++ spelled_given option
spelled-option verb option none =
    ap (λ words. (row_of_verb verb.verb).name ∷ words)
    (joined (flat_map spelled_given (verb.options ++ option ∷ [])) (flat_map spelled_given verb.options) (spelled_given option) verb.words none
    (flat_map-append spelled_given verb.options (option ∷ []) ∙ ap (λ words. flat_map spelled_given verb.options ++ words) (append-nil (spelled_given option))))

spelled-word : (verb : VerbWords) (word : List ℕ) → spelled_verb (with_word verb word) ≡ spelled_verb verb ++ word ∷ []
spelled-word verb word = ap (λ words. (row_of_verb verb.verb).name ∷ words) (sym (append_assoc (flat_map spelled_given verb.options) verb.words (word ∷ [])))

pub numbered-more : (n : ℕ) (options : List Given) (option : Given) → are_numbered n options ≡ true → option.number ≡ n + length (flat_map spelled_given options) + 1
    → are_numbered n (options ++ option ∷ []) ≡ true
numbered-more n [] option are is = and_from (option.number == n + 1) true (eq-eqb option.number (n + 1) (let e : option.number ≡ n + 1 = omega (arith, is) in e)) refl
numbered-more n (first ∷ options) option are is =
    let parts = and_parts (first.number == n + 1) (are_numbered (n + length (spelled_given first)) options) are in
    let both = length-append (spelled_given first) (flat_map spelled_given options) in
    let e : option.number ≡ n + length (spelled_given first) + length (flat_map spelled_given options) + 1 = omega (arith, is, both) in
    and_from (first.number == n + 1) (are_numbered (n + length (spelled_given first)) (options ++ option ∷ [])) parts.0
    (numbered-more (n + length (spelled_given first)) options option parts.1 e)

own-more : (n : ℕ) (words : List (List ℕ)) (word : List ℕ) → (words ≡ [] → ⊥) → number_of_own n (words ++ word ∷ []) ≡ number_of_own n words
own-more n [] word some = absurd (some refl)
own-more n (first ∷ words) word some = refl

verbs-more : (n : ℕ) (verbs : List VerbWords) (verb : VerbWords) → are_numbered_verbs n verbs ≡ true → is_numbered_verb (n + length (flat_map spelled_then verbs)) verb ≡ true
    → are_numbered_verbs n (verbs ++ verb ∷ []) ≡ true
verbs-more n [] verb are is = and_from (is_numbered_verb n verb) true (subst (λ m. is_numbered_verb m verb ≡ true) (let e : n + 0 ≡ n = omega arith in e) is) refl
verbs-more n (first ∷ verbs) verb are is =
    let parts = and_parts (is_numbered_verb n first) (are_numbered_verbs (n + length (spelled_then first)) verbs) are in
    let both = length-append (spelled_then first) (flat_map spelled_then verbs) in
    let e : n + length (spelled_then first ++ flat_map spelled_then verbs) ≡ n + length (spelled_then first) + length (flat_map spelled_then verbs) = omega (arith, both) in
    and_from (is_numbered_verb n first) (are_numbered_verbs (n + length (spelled_then first)) (verbs ++ verb ∷ [])) parts.0
    (verbs-more (n + length (spelled_then first)) verbs verb parts.1 (subst (λ m. is_numbered_verb m verb ≡ true) e is))

numbered-is : (n : ℕ) (verb : VerbWords) → Numbered n verb → is_numbered_verb n verb ≡ true
numbered-is n verb is =
    and_from (verb.number == n + 1) _ (eq-eqb verb.number (n + 1) is.number)
    (and_from (are_numbered (n + 1) verb.options) _ is.options
    (eq-eqb verb.own (number_of_own (n + 1 + length (flat_map spelled_given verb.options)) verb.words) is.own))

-- the verb with one more option is numbered
numbered-option : (first : List (List ℕ)) (verb : VerbWords) (option : Given) → Numbered (length first) verb → verb.words ≡ []
    → option.number ≡ length (first ++ spelled_verb verb) + 1 → Numbered (length first) (with_option verb option)
numbered-option first verb option is none number =
    let all = length-append first (spelled_verb verb) in
    let own = length-append (flat_map spelled_given verb.options) verb.words in
    let zero = ap (λ (words : List (List ℕ)). length words) none in
    let e : option.number ≡ length first + 1 + length (flat_map spelled_given verb.options) + 1 = omega (arith, all, own, zero, number) in
    record {
      number = is.number;
      options = numbered-more (length first + 1) verb.options option is.options e;
      own = is.own ∙ ap (number_of_own (length first + 1 + length (flat_map spelled_given verb.options))) none
          ∙ sym (ap (number_of_own (length first + 1 + length (flat_map spelled_given (verb.options ++ option ∷ [])))) none);
    }

-- a verb found by its name has it
named-if : (word : List ℕ) (first verb : VerbName) (other : Option VerbName) (t : Bool) → bytes_eq (row_of_verb first).name word ≡ t → (if t then Some first else other) ≡ Some verb
    → (other ≡ Some verb → word ≡ (row_of_verb verb).name) → word ≡ (row_of_verb verb).name
named-if word first verb other true same is later =
    sym ((bytes_eq-Decides (row_of_verb first).name word).0 same) ∙ ap (λ v. (row_of_verb v).name) (let e : first ≡ verb = cc in e)
named-if word first verb other false same is later = later is

named : (verbs : List VerbName) (word : List ℕ) (verb : VerbName) → named_among verbs word ≡ Some verb → word ≡ (row_of_verb verb).name
named [] word verb is = absurd (let e = is in cc)
named (first ∷ verbs) word verb is = named-if word first verb (named_among verbs word) (bytes_eq (row_of_verb first).name word) refl is (named verbs word verb)

-- the steps
not-verb-at : {A : Type 0} (verbs : List VerbWords) (first done : List (List ℕ)) (n : ℕ) (word : List ℕ) (o : Option A)
    → NextAt verbs first done word (elim o [ Some row ↦ next.Refused None (refusal n NotBuilt) | None ↦ next.Refused None (refusal n UnknownVerb) ])
not-verb-at verbs first done n word (Some row) = tt
not-verb-at verbs first done n word None = tt

verb-at : (verbs : List VerbWords) (first done : List (List ℕ)) (n : ℕ) (word : List ℕ) (o : Option VerbName) (other : Next) → NextAt verbs first done word other
    → n ≡ length done + 1 → done ≡ first → ((verb : VerbName) → o ≡ Some verb → word ≡ (row_of_verb verb).name)
    → NextAt verbs first done word (elim o [ Some verb ↦ next.Goes (place.Options (record { verb = verb; number = n; options = []; own = 0; words = [] })) | None ↦ other ])
verb-at verbs first done n word (Some verb) other at number same is_name = (
  ap (λ words. words ++ word ∷ []) same ∙ ap (λ w. first ++ w ∷ []) (is_name verb refl),
  record { number = number ∙ ap (λ (words : List (List ℕ)). length words + 1) same; options = refl; own = refl },
)
verb-at verbs first done n word None other at number same is_name = at

then-at : (verbs : List VerbWords) (first done : List (List ℕ)) (n : ℕ) (word : List ℕ) → n ≡ length done + 1 → done ≡ first → NextAt verbs first done word (after_then n word)
then-at verbs first done n word is same =
    verb-at verbs first done n word (verb_named word) (elim (row_of word verb_names) [ Some row ↦ next.Refused None (refusal n NotBuilt) | None ↦ next.Refused None (refusal n UnknownVerb) ])
    (not-verb-at verbs first done n word (row_of word verb_names)) is same (named all_verbs word)

flag-name-at : (verbs : List VerbWords) (first done : List (List ℕ)) (n : ℕ) (word : List ℕ) (kind : Kind) → n ≡ length done + 1 → verbs ≡ [] → done ≡ first
    → NextAt verbs first done word (after_flag_name (name_at n word) kind)
flag-name-at verbs first done n word Nothing is none same = (none, ap (λ words. words ++ word ∷ []) same, is ∙ ap (λ (words : List (List ℕ)). length words + 1) same)
flag-name-at verbs first done n word kind is none same = (none, ap (λ words. words ++ word ∷ []) same, is ∙ ap (λ (words : List (List ℕ)). length words + 1) same)

flags-at : (verbs : List VerbWords) (first done : List (List ℕ)) (n : ℕ) (word : List ℕ) (o : Option (Kind × Setting)) (dashed : Bool) → n ≡ length done + 1 → verbs ≡ [] → done ≡ first
    → NextAt verbs first done word (elim o [ Some row ↦ after_flag_name (name_at n word) row.0 | None ↦ if dashed then next.Refused None (refusal n UnknownFlag) else after_then n word ])
flags-at verbs first done n word (Some row) dashed is none same = flag-name-at verbs first done n word row.0 is none same
flags-at verbs first done n word None true is none same = tt
flags-at verbs first done n word None false is none same = then-at verbs first done n word is same

flag-at : (verbs : List VerbWords) (first done : List (List ℕ)) (flag : Given) (n : ℕ) (word : List ℕ) (o : Option Why) → verbs ≡ [] → done ≡ first ++ flag.name ∷ []
    → flag.number ≡ length first + 1
    → NextAt verbs first done word (elim o [ Some why ↦ next.Refused None (refusal n why) | None ↦ next.Flag (with_argument flag word) ])
flag-at verbs first done flag n word (Some why) none same number = tt
flag-at verbs first done flag n word None none same number = (none, ap (λ words. words ++ word ∷ []) same ∙ append_assoc first (flag.name ∷ []) (word ∷ []), number)

-- after a verb that is complete
ended-at : (verbs : List VerbWords) (first done : List (List ℕ)) (verb : VerbWords) (word : List ℕ) (t : Bool) → bytes_eq word (codes "then") ≡ t
    → done ≡ first ++ spelled_verb verb → Numbered (length first) verb → (not (length verb.words == 0) || not (is_dashed word)) ≡ true
    → NextAt verbs first done word (if t then next.Then verb else next.Names verb)
ended-at verbs first done verb word true is_then same is plain = (
  ap (λ words. words ++ word ∷ []) same ∙ append_assoc first (spelled_verb verb) (word ∷ [])
      ∙ ap (λ w. first ++ (spelled_verb verb ++ w ∷ [])) ((bytes_eq-Decides word (codes "then")).0 is_then),
  is,
)
ended-at verbs first done verb word false is_then same is plain = (same, is, λ words. and_from (not (bytes_eq word (codes "then"))) _ (ap not is_then) plain)

name-at : (verbs : List VerbWords) (first done : List (List ℕ)) (verb : VerbWords) (n : ℕ) (word : List ℕ) (kind : Kind) → n ≡ length done + 1
    → done ≡ first ++ spelled_verb verb → Numbered (length first) verb → verb.words ≡ []
    → NextAt verbs first done word (after_name verb (name_at n word) kind)
name-at verbs first done verb n word Nothing number same is none = (
  ap (λ words. words ++ word ∷ []) same ∙ append_assoc first (spelled_verb verb) (word ∷ []) ∙ ap (λ words. first ++ words) (sym (spelled-option verb (name_at n word) none)),
  numbered-option first verb (name_at n word) is none (number ∙ ap (λ (words : List (List ℕ)). length words + 1) same),
)
name-at verbs first done verb n word kind number same is none =
    (ap (λ words. words ++ word ∷ []) same, is, number ∙ ap (λ (words : List (List ℕ)). length words + 1) same)

first-at : (verbs : List VerbWords) (first done : List (List ℕ)) (verb : VerbWords) (n : ℕ) (word : List ℕ) → n ≡ length done + 1
    → done ≡ first ++ spelled_verb verb → Numbered (length first) verb → verb.words ≡ []
    → NextAt verbs first done word (next.Goes (place.Words (first_word verb n word)))
first-at verbs first done verb n word number same is none =
    let all = length-append first (spelled_verb verb) in
    let own = length-append (flat_map spelled_given verb.options) verb.words in
    let zero = ap (λ (words : List (List ℕ)). length words) none in
    let long = ap (λ (words : List (List ℕ)). length words) same in
    let e : n ≡ length first + 1 + length (flat_map spelled_given verb.options) + 1 = omega (arith, all, own, zero, number, long) in (
      ap (λ words. words ++ word ∷ []) same ∙ append_assoc first (spelled_verb verb) (word ∷ []) ∙ ap (λ words. first ++ words) (sym (spelled-word verb word)),
      record {
        number = is.number;
        options = is.options;
        own = e ∙ sym (ap (λ words. number_of_own (length first + 1 + length (flat_map spelled_given verb.options)) (words ++ word ∷ [])) none);
      },
    )

options-at : (verbs : List VerbWords) (first done : List (List ℕ)) (verb : VerbWords) (n : ℕ) (word : List ℕ) (o : Option Kind) (dashed required lacks : Bool) → is_dashed word ≡ dashed
    → n ≡ length done + 1 → done ≡ first ++ spelled_verb verb → Numbered (length first) verb → verb.words ≡ []
    → NextAt verbs first done word (elim o [
      | Some kind ↦ after_name verb (name_at n word) kind
      | None ↦ if dashed then next.Refused (Some verb) (refusal n UnknownFlag)
          else (if not required then next.Refused (Some verb) (missing verb) else (if lacks then next.Goes (place.Words (first_word verb n word)) else ended verb word))
    ])
options-at verbs first done verb n word (Some kind) dashed required lacks is_dashed number same is none = name-at verbs first done verb n word kind number same is none
options-at verbs first done verb n word None true required lacks is_dashed number same is none = tt
options-at verbs first done verb n word None false false lacks is_dashed number same is none = tt
options-at verbs first done verb n word None false true true is_dashed number same is none = first-at verbs first done verb n word number same is none
options-at verbs first done verb n word None false true false is_dashed number same is none =
    ended-at verbs first done verb word (bytes_eq word (codes "then")) refl same is (rw is_dashed (or-true _))

option-at : (verbs : List VerbWords) (first done : List (List ℕ)) (verb : VerbWords) (option : Given) (n : ℕ) (word : List ℕ) (o : Option Why)
    → At verbs first done (place.Argument verb option Nothing) → verb.words ≡ []
    → NextAt verbs first done word (elim o [ Some why ↦ next.Refused (Some verb) (refusal n why) | None ↦ next.Goes (place.Options (with_option verb (with_argument option word))) ])
option-at verbs first done verb option n word (Some why) at none = tt
option-at verbs first done verb option n word None at none = (
  ap (λ words. words ++ word ∷ []) at.0 ∙ append_assoc (first ++ spelled_verb verb) (option.name ∷ []) (word ∷ [])
      ∙ append_assoc first (spelled_verb verb) (option.name ∷ word ∷ []) ∙ ap (λ words. first ++ words) (sym (spelled-option verb (with_argument option word) none)),
  numbered-option first verb (with_argument option word) at.1 none at.2,
)

some-not-zero : (words : List (List ℕ)) (b : Bool) → (words ≡ [] → ⊥) → (not (length words == 0) || b) ≡ true
some-not-zero [] b some = absurd (some refl)
some-not-zero (word ∷ words) b some = rw (ne_eqb (length (word ∷ words)) 0 (λ is. omega (arith, is))) refl

words-at : (verbs : List VerbWords) (first done : List (List ℕ)) (verb : VerbWords) (word : List ℕ) (lacks : Bool) → done ≡ first ++ spelled_verb verb → Numbered (length first) verb
    → (verb.words ≡ [] → ⊥)
    → NextAt verbs first done word (if lacks then next.Goes (place.Words (with_word verb word)) else ended verb word)
words-at verbs first done verb word true same is some = (
  ap (λ words. words ++ word ∷ []) same ∙ append_assoc first (spelled_verb verb) (word ∷ []) ∙ ap (λ words. first ++ words) (sym (spelled-word verb word)),
  record {
    number = is.number;
    options = is.options;
    own = is.own ∙ sym (own-more (length first + 1 + length (flat_map spelled_given verb.options)) verb.words word some);
  },
)
words-at verbs first done verb word false same is some =
    ended-at verbs first done verb word (bytes_eq word (codes "then")) refl same is (some-not-zero verb.words (not (is_dashed word)) some)

pub after-at : (verbs : List VerbWords) (first done : List (List ℕ)) (at : Place) (n : ℕ) (word : List ℕ) → n ≡ length done + 1 → Fits at → At verbs first done at
    → NextAt verbs first done word (after at n word)
after-at verbs first done place.Flags n word number fits at = flags-at verbs first done n word (flag_named word) (is_dashed word) number at.0 at.1
after-at verbs first done (place.FlagArgument flag kind) n word number fits at = flag-at verbs first done flag n word (fault_of kind word) at.0 at.1 at.2
after-at verbs first done place.Verb n word number fits at = then-at verbs first done n word number at
after-at verbs first done (place.Options verb) n word number fits at =
    options-at verbs first done verb n word (kind_in (row_of_verb verb.verb).options word) (is_dashed word) (has_required verb) (lacks_words verb) refl number at.0 at.1 fits.1
after-at verbs first done (place.Argument verb option kind) n word number fits at = option-at verbs first done verb option n word (fault_of kind word) at fits.1
after-at verbs first done (place.Words verb) n word number fits at = words-at verbs first done verb word (lacks_words verb) at.0 at.1 fits.1

-- what is known of the flags and verbs that are complete
pub record Known (flags : List Given) (verbs : List VerbWords) : Type 0 where
  pub are_flags : list_all is_flag flags ≡ true
  pub are_verbs : list_all is_verb verbs ≡ true
  pub numbered_flags : are_numbered 0 flags ≡ true
  pub numbered_verbs : are_numbered_verbs (length (flat_map spelled_given flags)) verbs ≡ true

-- one more flag, where no verbs have begun
known-flag : (flags : List Given) (verbs : List VerbWords) (flag : Given) → Known flags verbs → verbs ≡ [] → is_flag flag ≡ true
    → flag.number ≡ length (start flags verbs) + 1 → Known (flags ++ flag ∷ []) verbs
known-flag flags verbs flag known none is number =
    let long = ap (λ vs. length (flat_map spelled_given flags ++ flat_map spelled_then vs)) none in
    let all = length-append (flat_map spelled_given flags) [] in
    let e : flag.number ≡ 0 + length (flat_map spelled_given flags) + 1 = omega (arith, number, long, all) in
    record {
      are_flags = all-more is_flag flags flag known.are_flags is;
      are_verbs = known.are_verbs;
      numbered_flags = numbered-more 0 flags flag known.numbered_flags e;
      numbered_verbs = ap (are_numbered_verbs (length (flat_map spelled_given (flags ++ flag ∷ [])))) none;
    }

start-flag : (flags : List Given) (verbs : List VerbWords) (flag : Given) → verbs ≡ [] → start flags verbs ++ spelled_given flag ≡ start (flags ++ flag ∷ []) verbs
start-flag flags verbs flag none =
    ap (λ vs. flat_map spelled_given flags ++ flat_map spelled_then vs ++ spelled_given flag) none
    ∙ ap (λ words. words ++ spelled_given flag) (append-nil (flat_map spelled_given flags))
    ∙ ap (λ words. flat_map spelled_given flags ++ words) (sym (append-nil (spelled_given flag)))
    ∙ sym (flat_map-append spelled_given flags (flag ∷ []))
    ∙ sym (append-nil (flat_map spelled_given (flags ++ flag ∷ [])))
    ∙ ap (λ vs. flat_map spelled_given (flags ++ flag ∷ []) ++ flat_map spelled_then vs) (sym none)

-- one more verb
known-verb : (flags : List Given) (verbs : List VerbWords) (verb : VerbWords) → Known flags verbs → is_verb verb ≡ true
    → Numbered (length (start flags verbs)) verb → Known flags (verbs ++ verb ∷ [])
known-verb flags verbs verb known is numbered = record {
  are_flags = known.are_flags;
  are_verbs = all-more is_verb verbs verb known.are_verbs is;
  numbered_flags = known.numbered_flags;
  numbered_verbs = verbs-more (length (flat_map spelled_given flags)) verbs verb known.numbered_verbs
      (subst (λ n. is_numbered_verb n verb ≡ true) (length-append (flat_map spelled_given flags) (flat_map spelled_then verbs))
      (numbered-is (length (start flags verbs)) verb numbered));
}

start-verb : (flags : List Given) (verbs : List VerbWords) (verb : VerbWords) → start flags verbs ++ spelled_then verb ≡ start flags (verbs ++ verb ∷ [])
start-verb flags verbs verb =
    append_assoc (flat_map spelled_given flags) (flat_map spelled_then verbs) (spelled_then verb)
    ∙ ap (λ words. flat_map spelled_given flags ++ words)
    (ap (λ words. flat_map spelled_then verbs ++ words) (sym (append-nil (spelled_then verb))) ∙ sym (flat_map-append spelled_then verbs (verb ∷ [])))

-- the words are a line, if it is accepted
abbrev pub Is : List (List ℕ) → Line → Type 0
Is words line = line.refusal ≡ None → IsLine words line.flags line.verbs line.names

-- the line ends with this verb, and file names
with-names : (flags : List Given) (verbs : List VerbWords) (verb : VerbWords) (names : List (List ℕ)) (done : List (List ℕ)) → Known flags (verbs ++ verb ∷ [])
    → done ≡ start flags verbs ++ spelled_verb verb → are_names verb names ≡ true → IsLine (done ++ names) flags (verbs ++ verb ∷ []) names
with-names flags verbs verb names done known same are = record {
  before = verbs;
  last = verb;
  verbs_are = refl;
  words_are = ap (λ words. words ++ names) same;
  are_flags = known.are_flags;
  are_verbs = known.are_verbs;
  are_names = are;
  numbered_flags = known.numbered_flags;
  numbered_verbs = known.numbered_verbs;
}

abbrev Goes : List (List ℕ) → List (List ℕ) → (List Given → List VerbWords → Place → Line) → Type 0
Goes done words go =
    (flags : List Given) (verbs : List VerbWords) (at : Place) → Known flags verbs → Fits at → At verbs (start flags verbs) done at → Is (done ++ words) (go flags verbs at)

next-is : (go : List Given → List VerbWords → Place → Line) (done : List (List ℕ)) (word : List ℕ) (words : List (List ℕ)) → Goes (done ++ word ∷ []) words go
    → (flags : List Given) (verbs : List VerbWords) (to : Next) → Known flags verbs → NextFits to → NextAt verbs (start flags verbs) done word to
    → Is (done ++ word ∷ [] ++ words) (line_by go flags verbs (word ∷ words) to)
next-is go done word words goes flags verbs (next.Goes to) known fits at = goes flags verbs to known fits at
next-is go done word words goes flags verbs (next.Flag flag) known fits at =
    goes (flags ++ flag ∷ []) verbs place.Flags (known-flag flags verbs flag known at.0 fits at.2) tt (at.0, at.1 ∙ start-flag flags verbs flag at.0)
next-is go done word words goes flags verbs (next.Then verb) known fits at =
    goes flags (verbs ++ verb ∷ []) place.Verb (known-verb flags verbs verb known fits at.1) tt (at.0 ∙ start-verb flags verbs verb)
next-is go done word words goes flags verbs (next.Names verb) known fits at = λ accepted.
    subst (λ all. IsLine all flags (verbs ++ verb ∷ []) (word ∷ words)) (sym (append_assoc done (word ∷ []) words))
    (with-names flags verbs verb (word ∷ words) done (known-verb flags verbs verb known fits at.1) at.0 (at.2 words))
next-is go done word words goes flags verbs (next.Refused partial why) known fits at = λ accepted. absurd (let e = accepted in cc)

verb-end-is : (flags : List Given) (verbs : List VerbWords) (verb : VerbWords) (done : List (List ℕ)) (t : Bool) → Known flags verbs → (t ≡ true → is_verb verb ≡ true)
    → done ≡ start flags verbs ++ spelled_verb verb → Numbered (length (start flags verbs)) verb
    → Is (done ++ []) (if t then accepted flags (verbs ++ verb ∷ []) [] else refused flags verbs (Some verb) (missing verb))
verb-end-is flags verbs verb done true known is same numbered = λ accepted. with-names flags verbs verb [] done (known-verb flags verbs verb known (is refl) numbered) same refl
verb-end-is flags verbs verb done false known is same numbered = λ accepted. absurd (let e = accepted in cc)

end-is : (n : ℕ) (done : List (List ℕ)) → Goes done [] (at_end n)
end-is n done flags verbs place.Flags known fits at = λ accepted. absurd (let e = accepted in cc)
end-is n done flags verbs (place.FlagArgument flag kind) known fits at = λ accepted. absurd (let e = accepted in cc)
end-is n done flags verbs place.Verb known fits at = λ accepted. absurd (let e = accepted in cc)
end-is n done flags verbs (place.Options verb) known fits at =
    verb-end-is flags verbs verb done (is_complete verb) known (complete-options verb (has_required verb) (lacks_words verb) refl refl fits.0 fits.1) at.0 at.1
end-is n done flags verbs (place.Argument verb option kind) known fits at = λ accepted. absurd (let e = accepted in cc)
end-is n done flags verbs (place.Words verb) known fits at =
    verb-end-is flags verbs verb done (is_complete verb) known (complete-words verb (has_required verb) (lacks_words verb) refl fits.0) at.0 at.1

line-is : (words : List (List ℕ)) (n : ℕ) (done : List (List ℕ)) → n ≡ length done → Goes done words (λ flags verbs at. line_from n flags verbs at words)
line-is [] n done number flags verbs at known fits is_at = end-is (n + 1) done flags verbs at known fits is_at
line-is (word ∷ words) n done number flags verbs at known fits is_at =
    subst (λ all. Is all (line_from n flags verbs at (word ∷ words))) (append_assoc done (word ∷ []) words)
    (next-is (λ f v p. line_from (n + 1) f v p words) done word words (line-is words (n + 1) (done ++ word ∷ []) (let both = length-append done (word ∷ []) in omega (arith, both, number)))
    flags verbs (after at (n + 1) word) known (after-fits at (n + 1) word fits)
    (after-at verbs (start flags verbs) done at (n + 1) word (let e : n + 1 ≡ length done + 1 = omega (arith, number) in e) fits is_at))

-- an accepted line is one
pub accepted-is : (words : List (List ℕ)) → Is words (line_in words)
accepted-is words = line-is words 0 [] refl [] [] place.Flags (record { are_flags = refl; are_verbs = refl; numbered_flags = refl; numbered_verbs = refl }) tt (refl, refl)
