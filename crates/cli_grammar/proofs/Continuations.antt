-- From each place some words complete the line.
use Rattle.std.proofs.Common.{◌≡◌, ℕ, ◌+◌, ◌≤◌, ◌<◌, Bool, true, false, List, [], ◌∷◌, ◌++◌, length, drop, Option, Some, None, refl, ap, sym, ◌∙◌, subst, arith, length-drop}
use Rattle.std.specs.Prelude.{◌==◌, ◌||◌, codes, if◌then◌else◌, is_none, map}
use Rattle.std.specs.List.{flat_map, list_all, list_any}
use Rattle.std.specs.Str.{bytes_eq}
use Rattle.std.proofs.lemmas.Bool.{and_from, and_parts, eq-eqb, lt-ltb, le-ltb}
use Rattle.std.proofs.lemmas.List.{append-nil, length-append, length-map}
use Rattle.std.proofs.lemmas.List.Folds.{list_any-append}
use Rattle.std.proofs.Math.Bool.{or-true}
use Rattle.mlr_spec.specs.Infer.{kind_after_sign}
use Rattle.mlr_event.specs.declared.refusal.Why.{Why}
use Rattle.cli_grammar.specs.declared.flag_table.Setting.{Setting}
use Rattle.cli_grammar.specs.declared.given.Given.{Given}
use Rattle.cli_grammar.specs.declared.given.VerbWords.{VerbWords}
use Rattle.cli_grammar.specs.declared.kind.Kind.{Kind}
use Rattle.cli_grammar.specs.declared.kind.Kind.TheVariants as kind
use Rattle.cli_grammar.specs.declared.line.Line.{Line}
use Rattle.cli_grammar.specs.declared.line.Next.TheVariants as next
use Rattle.cli_grammar.specs.declared.line.Place.{Place}
use Rattle.cli_grammar.specs.declared.line.Place.TheVariants as place
use Rattle.cli_grammar.specs.declared.verb_table.VerbName.{VerbName}
use Rattle.cli_grammar.specs.declared.verb_table.VerbName.TheVariants as verb
use Rattle.cli_grammar.specs.Flags.{FlagRow, flag_rows, row_named}
use Rattle.cli_grammar.specs.Grammar.{are_numbered, is_option, spelled_given}
use Rattle.cli_grammar.specs.Kinds.{fault_of}
use Rattle.cli_grammar.specs.Options.{has}
use Rattle.cli_grammar.specs.Reading.{ended, first_word, fulfils, has_required, kind_in, line_from, refusal, with_argument, with_option}
use Rattle.cli_grammar.specs.Verbs.{row_of_verb}
use Rattle.cli_grammar.proofs.Fits.{Fits}
use Rattle.cli_grammar.proofs.Walks.{ended-options, ended-words, flags-begins, name-walk, options-walk, plain-after, step, verb-begins, words-walk}

-- a word of a kind, for each kind in the tables
abbrev good : Kind → List ℕ
good kind.Accumulators = codes "count"
good kind.Steppers = codes "shift"
good kind.Format = codes "csv"
good kind = codes "1"

abbrev is_good : Kind → Bool
is_good kind = is_none (fault_of kind (good kind))

none-is : (o : Option Why) → is_none o ≡ true → o ≡ None
none-is None is = refl
none-is (Some why) is = absurd (let e = is in cc)

flags-good : list_all (λ row. is_good row.follows) flag_rows ≡ true
unfolding kind_after_sign
flags-good = refl

good-flag-if : (follows kind : Kind) (sets setting : Setting) (other : Option (Kind × Setting)) (t : Bool) → (if t then Some (follows, sets) else other) ≡ Some (kind, setting)
    → is_good follows ≡ true → (other ≡ Some (kind, setting) → is_good kind ≡ true) → is_good kind ≡ true
good-flag-if follows kind sets setting other true is here later =
    subst (λ k. is_good k ≡ true) (ap (λ (o : Option (Kind × Setting)). elim o [ Some row ↦ row.0 | None ↦ follows ]) is) here
good-flag-if follows kind sets setting other false is here later = later is

good-flag : (rows : List FlagRow) (name : List ℕ) (kind : Kind) (setting : Setting) → list_all (λ row. is_good row.follows) rows ≡ true → row_named rows name ≡ Some (kind, setting)
    → is_good kind ≡ true
good-flag [] name kind setting are is = absurd (let e = is in cc)
good-flag (row ∷ rows) name kind setting are is =
    let parts = and_parts (is_good row.follows) (list_all (λ row. is_good row.follows) rows) are in
    good-flag-if row.follows kind row.sets setting (row_named rows name) (bytes_eq row.name name) is parts.0 (good-flag rows name kind setting parts.1)

good-option-if : (follows kind : Kind) (other : Option Kind) (t : Bool) → (if t then Some follows else other) ≡ Some kind
    → is_good follows ≡ true → (other ≡ Some kind → is_good kind ≡ true) → is_good kind ≡ true
good-option-if follows kind other true is here later = subst (λ k. is_good k ≡ true) (let e : follows ≡ kind = cc in e) here
good-option-if follows kind other false is here later = later is

good-option : (options : List (List ℕ × Kind)) (name : List ℕ) (kind : Kind) → list_all (λ option. is_good option.1) options ≡ true → kind_in options name ≡ Some kind → is_good kind ≡ true
good-option [] name kind are is = absurd (let e = is in cc)
good-option (option ∷ options) name kind are is =
    let parts = and_parts (is_good option.1) (list_all (λ option. is_good option.1) options) are in
    good-option-if option.1 kind (kind_in options name) (bytes_eq option.0 name) is parts.0 (good-option options name kind parts.1)

-- an option that was given is given among more, too
has-more : (name : List ℕ) (before more : List Given) → has name more ≡ true → has name (before ++ more) ≡ true
has-more name before more is = list_any-append (λ given. bytes_eq given.name name) before more ∙ ap (λ t. has name before || t) is ∙ or-true (has name before)

any-if : (name : List ℕ) (before more : List Given) (t rest all : Bool) → has name more ≡ t → (t || rest) ≡ true → (rest ≡ true → all ≡ true) → (has name (before ++ more) || all) ≡ true
any-if name before more true rest all has_it is later = ap (λ t. t || all) (has-more name before more has_it)
any-if name before more false rest all has_it is later = ap (λ t. has name (before ++ more) || t) (later is) ∙ or-true (has name (before ++ more))

any-more : (names : List (List ℕ)) (before more : List Given) → list_any (λ name. has name more) names ≡ true → list_any (λ name. has name (before ++ more)) names ≡ true
any-more [] before more is = absurd (let e = is in cc)
any-more (name ∷ names) before more is =
    any-if name before more (has name more) (list_any (λ name. has name more) names) (list_any (λ name. has name (before ++ more)) names) refl is (any-more names before more)

-- a group that is fulfilled is fulfilled by more options, too
fulfils-more : (names : List (List ℕ)) (must : Bool) (before more : List Given) → fulfils more (names, must) ≡ true → fulfils (before ++ more) (names, must) ≡ true
fulfils-more names true before more is = any-more names before more is
fulfils-more names false before more is = refl

all-fulfilled : (groups : List (List (List ℕ) × Bool)) (before more : List Given) → list_all (fulfils more) groups ≡ true → list_all (fulfils (before ++ more)) groups ≡ true
all-fulfilled [] before more are = refl
all-fulfilled (group ∷ groups) before more are =
    let parts = and_parts (fulfils more group) (list_all (fulfils more) groups) are in
    and_from (fulfils (before ++ more) group) (list_all (fulfils (before ++ more)) groups) (fulfils-more group.0 group.1 before more parts.0) (all-fulfilled groups before more parts.1)

-- options with the words after them, which follow `n` words
abbrev given_after : ℕ → List (List ℕ × List ℕ) → List Given
given_after n [] = []
given_after n (option ∷ options) = record { number = n + 1; name = option.0; argument = Some option.1 } ∷ given_after (n + 2) options

abbrev spelled_options : List (List ℕ × List ℕ) → List (List ℕ)
spelled_options [] = []
spelled_options (option ∷ options) = option.0 ∷ option.1 ∷ spelled_options options

spelled-after : (options : List (List ℕ × List ℕ)) (n : ℕ) → flat_map spelled_given (given_after n options) ≡ spelled_options options
spelled-after [] n = refl
spelled-after (option ∷ options) n = ap (λ words. option.0 ∷ option.1 ∷ words) (spelled-after options (n + 2))

numbered-after : (options : List (List ℕ × List ℕ)) (n : ℕ) → are_numbered n (given_after n options) ≡ true
numbered-after [] n = refl
numbered-after (option ∷ options) n =
    and_from (n + 1 == n + 1) (are_numbered (n + 2) (given_after (n + 2) options)) (eq-eqb (n + 1) (n + 1) refl) (numbered-after options (n + 2))

-- options with which a verb has all that it must have
record Needed (verb : VerbName) : Type 0 where
  options : List (List ℕ × List ℕ)
  are : (n : ℕ) → list_all (is_option (row_of_verb verb).options) (given_after n options) ≡ true
  enough : (n : ℕ) → list_all (fulfils (given_after n options)) (row_of_verb verb).groups ≡ true

-- Each kind in a verb's row has a word, and some options are all that a verb must have.
abbrev CanEnd : VerbName → Type 0
CanEnd verb = (list_all (λ option. is_good option.1) (row_of_verb verb).options ≡ true) × Needed verb

needed : (verb : VerbName) (options : List (List ℕ × List ℕ)) → ((n : ℕ) → list_all (is_option (row_of_verb verb).options) (given_after n options) ≡ true)
    → ((n : ℕ) → list_all (fulfils (given_after n options)) (row_of_verb verb).groups ≡ true) → Needed verb
needed verb options are enough = record { options = options; are = are; enough = enough }

can-end : (verb : VerbName) → CanEnd verb
unfolding kind_after_sign
can-end verb.Altkv = (refl, needed verb.Altkv [] (λ n. refl) (λ n. refl))
can-end verb.Cat = (refl, needed verb.Cat [] (λ n. refl) (λ n. refl))
can-end verb.Count = (refl, needed verb.Count [] (λ n. refl) (λ n. refl))
can-end verb.CountDistinct = (refl, needed verb.CountDistinct ((codes "-f", codes "1") ∷ []) (λ n. refl) (λ n. refl))
can-end verb.CountSimilar = (refl, needed verb.CountSimilar ((codes "-g", codes "1") ∷ []) (λ n. refl) (λ n. refl))
can-end verb.Cut = (refl, needed verb.Cut ((codes "-f", codes "1") ∷ []) (λ n. refl) (λ n. refl))
can-end verb.Decimate = (refl, needed verb.Decimate [] (λ n. refl) (λ n. refl))
can-end verb.FillDown = (refl, needed verb.FillDown ((codes "-f", codes "1") ∷ []) (λ n. refl) (λ n. refl))
can-end verb.FillEmpty = (refl, needed verb.FillEmpty [] (λ n. refl) (λ n. refl))
can-end verb.Flatten = (refl, needed verb.Flatten [] (λ n. refl) (λ n. refl))
can-end verb.Gap = (refl, needed verb.Gap ((codes "-n", codes "1") ∷ []) (λ n. refl) (λ n. refl))
can-end verb.Grep = (refl, needed verb.Grep [] (λ n. refl) (λ n. refl))
can-end verb.GroupBy = (refl, needed verb.GroupBy [] (λ n. refl) (λ n. refl))
can-end verb.GroupLike = (refl, needed verb.GroupLike [] (λ n. refl) (λ n. refl))
can-end verb.Gsub = (refl, needed verb.Gsub ((codes "-f", codes "1") ∷ []) (λ n. refl) (λ n. refl))
can-end verb.HavingFields = (refl, needed verb.HavingFields ((codes "--at-least", codes "1") ∷ []) (λ n. refl) (λ n. refl))
can-end verb.Head = (refl, needed verb.Head [] (λ n. refl) (λ n. refl))
can-end verb.Join = (refl, needed verb.Join ((codes "-f", codes "1") ∷ (codes "-j", codes "1") ∷ []) (λ n. refl) (λ n. refl))
can-end verb.JsonParse = (refl, needed verb.JsonParse [] (λ n. refl) (λ n. refl))
can-end verb.JsonStringify = (refl, needed verb.JsonStringify [] (λ n. refl) (λ n. refl))
can-end verb.Label = (refl, needed verb.Label [] (λ n. refl) (λ n. refl))
can-end verb.LeastFrequent = (refl, needed verb.LeastFrequent ((codes "-f", codes "1") ∷ []) (λ n. refl) (λ n. refl))
can-end verb.MergeFields = (refl, needed verb.MergeFields ((codes "-a", codes "count") ∷ (codes "-f", codes "1") ∷ []) (λ n. refl) (λ n. refl))
can-end verb.MostFrequent = (refl, needed verb.MostFrequent ((codes "-f", codes "1") ∷ []) (λ n. refl) (λ n. refl))
can-end verb.Nest = (refl, needed verb.Nest ((codes "--evar", codes ";") ∷ (codes "-f", codes "x") ∷ []) (λ n. refl) (λ n. refl))
can-end verb.Nothing = (refl, needed verb.Nothing [] (λ n. refl) (λ n. refl))
can-end verb.Regularize = (refl, needed verb.Regularize [] (λ n. refl) (λ n. refl))
can-end verb.Rename = (refl, needed verb.Rename [] (λ n. refl) (λ n. refl))
can-end verb.Reorder = (refl, needed verb.Reorder ((codes "-f", codes "1") ∷ []) (λ n. refl) (λ n. refl))
can-end verb.Repeat = (refl, needed verb.Repeat ((codes "-n", codes "1") ∷ []) (λ n. refl) (λ n. refl))
can-end verb.Reshape = (refl, needed verb.Reshape ((codes "-s", codes "k,v") ∷ []) (λ n. refl) (λ n. refl))
can-end verb.Sec2Gmt = (refl, needed verb.Sec2Gmt [] (λ n. refl) (λ n. refl))
can-end verb.Sec2GmtDate = (refl, needed verb.Sec2GmtDate [] (λ n. refl) (λ n. refl))
can-end verb.Seqgen = (refl, needed verb.Seqgen [] (λ n. refl) (λ n. refl))
can-end verb.Sort = (refl, needed verb.Sort ((codes "-f", codes "1") ∷ []) (λ n. refl) (λ n. refl))
can-end verb.SortWithinRecords = (refl, needed verb.SortWithinRecords [] (λ n. refl) (λ n. refl))
can-end verb.Sparsify = (refl, needed verb.Sparsify [] (λ n. refl) (λ n. refl))
can-end verb.Ssub = (refl, needed verb.Ssub ((codes "-f", codes "1") ∷ []) (λ n. refl) (λ n. refl))
can-end verb.Stats1 = (refl, needed verb.Stats1 ((codes "-a", codes "count") ∷ (codes "-f", codes "1") ∷ []) (λ n. refl) (λ n. refl))
can-end verb.Step = (refl, needed verb.Step ((codes "-a", codes "shift") ∷ (codes "-f", codes "1") ∷ []) (λ n. refl) (λ n. refl))
can-end verb.Sub = (refl, needed verb.Sub ((codes "-f", codes "1") ∷ []) (λ n. refl) (λ n. refl))
can-end verb.Tac = (refl, needed verb.Tac [] (λ n. refl) (λ n. refl))
can-end verb.Tail = (refl, needed verb.Tail [] (λ n. refl) (λ n. refl))
can-end verb.Template = (refl, needed verb.Template ((codes "-f", codes "1") ∷ []) (λ n. refl) (λ n. refl))
can-end verb.Top = (refl, needed verb.Top ((codes "-f", codes "1") ∷ []) (λ n. refl) (λ n. refl))
can-end verb.Unflatten = (refl, needed verb.Unflatten [] (λ n. refl) (λ n. refl))
can-end verb.Uniq = (refl, needed verb.Uniq ((codes "-g", codes "1") ∷ []) (λ n. refl) (λ n. refl))
can-end verb.Unspace = (refl, needed verb.Unspace [] (λ n. refl) (λ n. refl))
can-end verb.Unsparsify = (refl, needed verb.Unsparsify [] (λ n. refl) (λ n. refl))

-- the words so far can go on
abbrev pub GoesOn : Place → Type 0
GoesOn at = (following : List (List ℕ)) × ((n : ℕ) (flags : List Given) (verbs : List VerbWords) → (line_from n flags verbs at following).refusal ≡ None)

none-of : (line other : Line) → line ≡ other → other.refusal ≡ None → line.refusal ≡ None
none-of line other same none = ap (λ (l : Line). l.refusal) same ∙ none

-- the words that a verb lacks
words-on : (own : List (List ℕ)) (verb : VerbWords) → has_required verb ≡ true → length verb.words + length own ≡ length (row_of_verb verb.verb).words
    → (n : ℕ) (flags : List Given) (verbs : List VerbWords) → (line_from n flags verbs (place.Words verb) own).refusal ≡ None
words-on own verb required all n flags verbs =
    let both = length-append verb.words own in
    let within : length verb.words + length own ≤ length (row_of_verb verb.verb).words = omega (arith, all) in
    let enough : length (row_of_verb verb.verb).words ≤ length (verb.words ++ own) = omega (arith, all, both) in
    let whole = record verb { words = verb.words ++ own } in
    let ends = ended-words whole required (le-ltb (length (verb.words ++ own)) (length (row_of_verb verb.verb).words) enough) in
    ap (λ words. (line_from n flags verbs (place.Words verb) words).refusal) (sym (append-nil own))
    ∙ ap (λ (line : Line). line.refusal) (words-walk own n flags verbs verb [] within ∙ ends.ends (n + length own + 1) flags verbs)

abbrev ones : List Kind → List (List ℕ)
ones kinds = map (λ kind. codes "1") kinds

own-on : (kinds : List Kind) (verb : VerbWords) → (row_of_verb verb.verb).words ≡ kinds → verb.words ≡ [] → has_required verb ≡ true
    → (n : ℕ) (flags : List Given) (verbs : List VerbWords) → (line_from n flags verbs (place.Options verb) (ones kinds)).refusal ≡ None
own-on [] verb are none required n flags verbs =
    let size = ap (λ (kinds : List Kind). length kinds) are in
    let enough : length (row_of_verb verb.verb).words ≤ length verb.words = omega (arith, size) in
    ap (λ (line : Line). line.refusal)
    ((ended-options verb none required (le-ltb (length verb.words) (length (row_of_verb verb.verb).words) enough)).ends (n + 1) flags verbs)
own-on (kind ∷ kinds) verb are none required n flags verbs =
    let size = ap (λ (kinds : List Kind). length kinds) are in
    let zero = ap (λ (words : List (List ℕ)). length words) none in
    let both = length-append verb.words (codes "1" ∷ []) in
    let same = length-map kinds (λ (kind : Kind). codes "1") in
    let below : length verb.words < length (row_of_verb verb.verb).words = omega (arith, size, zero) in
    let all : length (verb.words ++ codes "1" ∷ []) + length (ones kinds) ≡ length (row_of_verb verb.verb).words = omega (arith, size, zero, both, same) in
    ap (λ (line : Line). line.refusal)
    (step n flags verbs (place.Options verb) (codes "1") (ones kinds) (next.Goes (place.Words (first_word verb (n + 1) (codes "1"))))
    (plain-after verb (n + 1) (codes "1") refl required
    ∙ ap (λ t. if t then next.Goes (place.Words (first_word verb (n + 1) (codes "1"))) else ended verb (codes "1")) (lt-ltb (length verb.words) (length (row_of_verb verb.verb).words) below)))
    ∙ words-on (ones kinds) (first_word verb (n + 1) (codes "1")) required all (n + 1) flags verbs

-- after options of a verb, with those that it must have
options-on : (verb : VerbWords) → verb.words ≡ [] → Needed verb.verb → GoesOn (place.Options verb)
options-on verb none need =
    let own = ones (row_of_verb verb.verb).words in (
      spelled_options need.options ++ own,
      λ n flags verbs.
          let given = given_after n need.options in
          let whole = record verb { options = verb.options ++ given } in
          ap (λ (line : Line). line.refusal)
          (ap (λ words. line_from n flags verbs (place.Options verb) (words ++ own)) (sym (spelled-after need.options n))
          ∙ options-walk given n flags verbs verb own (need.are n) (numbered-after need.options n))
          ∙ own-on (row_of_verb verb.verb).words whole refl none (all-fulfilled (row_of_verb verb.verb).groups verb.options given (need.enough n))
          (n + length (flat_map spelled_given given)) flags verbs,
    )

flags-on : (n : ℕ) (flags : List Given) (verbs : List VerbWords) → (line_from n flags verbs place.Flags (codes "nothing" ∷ [])).refusal ≡ None
flags-on n flags verbs = ap (λ (line : Line). line.refusal) (name-walk n flags verbs place.Flags verb.Nothing [] flags-begins)

argument-on : (verb : VerbWords) (option : Given) (kind : Kind) → verb.words ≡ [] → is_good kind ≡ true → GoesOn (place.Argument verb option kind)
argument-on verb option kind none fine =
    let whole = with_option verb (with_argument option (good kind)) in
    let on = options-on whole none (can-end verb.verb).1 in (
      good kind ∷ on.0,
      λ n flags verbs.
          ap (λ (line : Line). line.refusal)
          (step n flags verbs (place.Argument verb option kind) (good kind) on.0 (next.Goes (place.Options whole))
          (ap (λ o. elim o [ Some why ↦ next.Refused (Some verb) (refusal (n + 1) why) | None ↦ next.Goes (place.Options whole) ]) (none-is (fault_of kind (good kind)) fine)))
          ∙ on.1 (n + 1) flags verbs,
    )

-- from each place some words complete the line
pub goes-on : (at : Place) → Fits at → GoesOn at
goes-on place.Flags fits = (codes "nothing" ∷ [], flags-on)
goes-on (place.FlagArgument flag kind) fits =
    let fine = good-flag flag_rows flag.name kind fits.1.0 flags-good fits.1.1 in (
      good kind ∷ codes "nothing" ∷ [],
      λ n flags verbs.
          ap (λ (line : Line). line.refusal)
          (step n flags verbs (place.FlagArgument flag kind) (good kind) (codes "nothing" ∷ []) (next.Flag (with_argument flag (good kind)))
          (ap (λ o. elim o [ Some why ↦ next.Refused None (refusal (n + 1) why) | None ↦ next.Flag (with_argument flag (good kind)) ]) (none-is (fault_of kind (good kind)) fine)))
          ∙ flags-on (n + 1) (flags ++ with_argument flag (good kind) ∷ []) verbs,
    )
goes-on place.Verb fits = (codes "nothing" ∷ [], λ n flags verbs. ap (λ (line : Line). line.refusal) (name-walk n flags verbs place.Verb verb.Nothing [] verb-begins))
goes-on (place.Options verb) fits = options-on verb fits.1 (can-end verb.verb).1
goes-on (place.Argument verb option kind) fits =
    argument-on verb option kind fits.1 (good-option (row_of_verb verb.verb).options option.name kind (can-end verb.verb).0 fits.3)
goes-on (place.Words verb) fits =
    let all = ones (row_of_verb verb.verb).words in
    let same = length-map (row_of_verb verb.verb).words (λ (kind : Kind). codes "1") in
    let left = length-drop (length verb.words) all in
    let within = fits.0.within in
    (drop (length verb.words) all, words-on (drop (length verb.words) all) verb fits.0.required (omega (arith, same, left, within)))
