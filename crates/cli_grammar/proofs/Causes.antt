-- A word is refused at its own number, or for what is missing.
use Rattle.std.proofs.Common.{◌≡◌, ℕ, Bool, true, false, List, [], ◌∷◌, ◌++◌, Option, Some, None, refl, ap, sym, ◌∙◌, inl, inr, ◌⊎◌}
use Rattle.std.specs.Prelude.{not, codes, if◌then◌else◌}
use Rattle.std.specs.Str.{bytes_eq}
use Rattle.mlr_tables.specs.Names.{verb_names}
use Rattle.mlr_tables.specs.Table.{row_of}
use Rattle.mlr_event.specs.declared.refusal.Refusal.{Refusal}
use Rattle.mlr_event.specs.declared.refusal.Why.{Why}
use Rattle.mlr_event.specs.declared.refusal.Why.TheVariants.{MissingArgument, NotBuilt, UnknownFlag, UnknownVerb}
use Rattle.cli_grammar.specs.declared.flag_table.Setting.{Setting}
use Rattle.cli_grammar.specs.declared.given.Given.{Given}
use Rattle.cli_grammar.specs.declared.given.VerbWords.{VerbWords}
use Rattle.cli_grammar.specs.declared.kind.Kind.{Kind}
use Rattle.cli_grammar.specs.declared.kind.Kind.TheVariants.{Nothing}
use Rattle.cli_grammar.specs.declared.line.Next.{Next}
use Rattle.cli_grammar.specs.declared.line.Next.TheVariants as next
use Rattle.cli_grammar.specs.declared.line.Place.{Place}
use Rattle.cli_grammar.specs.declared.line.Place.TheVariants as place
use Rattle.cli_grammar.specs.declared.verb_table.VerbName.{VerbName}
use Rattle.cli_grammar.specs.Flags.{flag_named}
use Rattle.cli_grammar.specs.Kinds.{fault_of}
use Rattle.cli_grammar.specs.Reading.{accepted, after, after_flag_name, after_name, after_then, at_end, ended, first_word, has_required, is_complete, is_dashed, kind_in, lacks_words, missing, name_at, refusal, refused, with_argument, with_option, with_word}
use Rattle.cli_grammar.specs.Verbs.{row_of_verb, verb_named}

-- a refusal of the word with this number, or for a missing word
abbrev pub IsAt : ℕ → Refusal → Type 0
IsAt n why = (why.word ≡ n) ⊎ (why.why ≡ MissingArgument)

abbrev pub NextIsAt : ℕ → Next → Type 0
NextIsAt n (next.Goes to) = Unit {0}
NextIsAt n (next.Flag flag) = Unit {0}
NextIsAt n (next.Then verb) = Unit {0}
NextIsAt n (next.Names verb) = Unit {0}
NextIsAt n (next.Refused partial why) = IsAt n why

not-verb : {A : Type 0} (n : ℕ) (o : Option A) → NextIsAt n (elim o [ Some row ↦ next.Refused None (refusal n NotBuilt) | None ↦ next.Refused None (refusal n UnknownVerb) ])
not-verb n (Some row) = inl refl
not-verb n None = inl refl

verb-at : (n : ℕ) (o : Option VerbName) (other : Next) → NextIsAt n other
    → NextIsAt n (elim o [ Some verb ↦ next.Goes (place.Options (record { verb = verb; number = n; options = []; own = 0; words = [] })) | None ↦ other ])
verb-at n (Some verb) other at = tt
verb-at n None other at = at

then-at : (n : ℕ) (word : List ℕ) → NextIsAt n (after_then n word)
then-at n word =
    verb-at n (verb_named word) (elim (row_of word verb_names) [ Some row ↦ next.Refused None (refusal n NotBuilt) | None ↦ next.Refused None (refusal n UnknownVerb) ])
    (not-verb n (row_of word verb_names))

flag-name-at : (n : ℕ) (flag : Given) (kind : Kind) → NextIsAt n (after_flag_name flag kind)
flag-name-at n flag Nothing = tt
flag-name-at n flag kind = tt

flags-at : (n : ℕ) (word : List ℕ) (o : Option (Kind × Setting)) (dashed : Bool)
    → NextIsAt n (elim o [ Some row ↦ after_flag_name (name_at n word) row.0 | None ↦ if dashed then next.Refused None (refusal n UnknownFlag) else after_then n word ])
flags-at n word (Some row) dashed = flag-name-at n (name_at n word) row.0
flags-at n word None true = inl refl
flags-at n word None false = then-at n word

flag-at : (n : ℕ) (flag : Given) (o : Option Why) → NextIsAt n (elim o [ Some why ↦ next.Refused None (refusal n why) | None ↦ next.Flag flag ])
flag-at n flag (Some why) = inl refl
flag-at n flag None = tt

ended-at : (n : ℕ) (verb : VerbWords) (t : Bool) → NextIsAt n (if t then next.Then verb else next.Names verb)
ended-at n verb true = tt
ended-at n verb false = tt

name-at : (n : ℕ) (verb : VerbWords) (option : Given) (kind : Kind) → NextIsAt n (after_name verb option kind)
name-at n verb option Nothing = tt
name-at n verb option kind = tt

options-at : (n : ℕ) (verb : VerbWords) (word : List ℕ) (o : Option Kind) (dashed required lacks : Bool)
    → NextIsAt n (elim o [
      | Some kind ↦ after_name verb (name_at n word) kind
      | None ↦ if dashed then next.Refused (Some verb) (refusal n UnknownFlag)
          else (if not required then next.Refused (Some verb) (missing verb) else (if lacks then next.Goes (place.Words (first_word verb n word)) else ended verb word))
    ])
options-at n verb word (Some kind) dashed required lacks = name-at n verb (name_at n word) kind
options-at n verb word None true required lacks = inl refl
options-at n verb word None false false lacks = inr refl
options-at n verb word None false true true = tt
options-at n verb word None false true false = ended-at n verb (bytes_eq word (codes "then"))

option-at : (n : ℕ) (verb whole : VerbWords) (o : Option Why)
    → NextIsAt n (elim o [ Some why ↦ next.Refused (Some verb) (refusal n why) | None ↦ next.Goes (place.Options whole) ])
option-at n verb whole (Some why) = inl refl
option-at n verb whole None = tt

words-at : (n : ℕ) (verb : VerbWords) (word : List ℕ) (lacks : Bool) → NextIsAt n (if lacks then next.Goes (place.Words (with_word verb word)) else ended verb word)
words-at n verb word true = tt
words-at n verb word false = ended-at n verb (bytes_eq word (codes "then"))

pub after-is-at : (at : Place) (n : ℕ) (word : List ℕ) → NextIsAt n (after at n word)
after-is-at place.Flags n word = flags-at n word (flag_named word) (is_dashed word)
after-is-at (place.FlagArgument flag kind) n word = flag-at n (with_argument flag word) (fault_of kind word)
after-is-at place.Verb n word = then-at n word
after-is-at (place.Options verb) n word = options-at n verb word (kind_in (row_of_verb verb.verb).options word) (is_dashed word) (has_required verb) (lacks_words verb)
after-is-at (place.Argument verb option kind) n word = option-at n verb (with_option verb (with_argument option word)) (fault_of kind word)
after-is-at (place.Words verb) n word = words-at n verb word (lacks_words verb)

-- the same where the words end
pub some-at : (n : ℕ) (reason why : Refusal) → Some reason ≡ Some why → IsAt n reason → IsAt n why
some-at n reason why same (inl word) = inl (sym (ap (λ (o : Option Refusal). elim o [ Some r ↦ r.word | None ↦ n ]) same) ∙ word)
some-at n reason why same (inr cause) = inr (sym (ap (λ (o : Option Refusal). elim o [ Some r ↦ r.why | None ↦ reason.why ]) same) ∙ cause)

verb-end-at : (n : ℕ) (flags : List Given) (verbs : List VerbWords) (verb : VerbWords) (why : Refusal) (t : Bool)
    → (if t then accepted flags (verbs ++ verb ∷ []) [] else refused flags verbs (Some verb) (missing verb)).refusal ≡ Some why → IsAt n why
verb-end-at n flags verbs verb why true is = absurd (let e = is in cc)
verb-end-at n flags verbs verb why false is = some-at n (missing verb) why is (inr refl)

pub end-is-at : (at : Place) (n : ℕ) (flags : List Given) (verbs : List VerbWords) (why : Refusal) → (at_end n flags verbs at).refusal ≡ Some why → IsAt n why
end-is-at place.Flags n flags verbs why is = some-at n _ why is (inl refl)
end-is-at (place.FlagArgument flag kind) n flags verbs why is = some-at n _ why is (inr refl)
end-is-at place.Verb n flags verbs why is = some-at n _ why is (inl refl)
end-is-at (place.Options verb) n flags verbs why is = verb-end-at n flags verbs verb why (is_complete verb) is
end-is-at (place.Argument verb option kind) n flags verbs why is = some-at n _ why is (inr refl)
end-is-at (place.Words verb) n flags verbs why is = verb-end-at n flags verbs verb why (is_complete verb) is
