-- The verbs of an accepted line can be run: their options are in range, and only the first may be a source.
use Rattle.std.proofs.Common.{◌≡◌, ℕ, zero, suc, ◌≤◌, ℤ, pos, negsuc, Bool, true, false, List, [], ◌∷◌, Option, Some, None, Result, Ok, Err, refl, ap, sym, subst, ◌∙◌, arith}
use Rattle.std.specs.Prelude.{IfOk, IfSome, is_none, ◌^◌, ◌-◌, ◌&&◌, not, length, codes, if◌then◌else◌}
use Rattle.std.specs.List.{list_all}
use Rattle.std.specs.Str.{bytes_eq}
use Rattle.std.proofs.lemmas.Bool.{and_from, false≢true}
use Rattle.std.proofs.lemmas.Slice.Eq.{bytes_eq-Decides}
use Rattle.verb_specs.specs.declared.verb_spec.VerbSpec.{VerbSpec}
use Rattle.verb_specs.specs.declared.verb_spec.VerbSpec.TheVariants.{Stream, Retain, Seq, Shape, Stat}
use Rattle.plan_verbs.specs.Plans.{IsSound, can_read_left}
use Rattle.verb_specs.specs.Verbs.{AreSound, AreVerbs, IsVerb}
use Rattle.plan_verbs.specs.declared.plan.Plan.{Plan}
use Rattle.read_files.specs.Represents.{can_read}
use Rattle.cli_grammar.specs.declared.given.Given.{Given}
use Rattle.cli_grammar.specs.declared.given.VerbWords.{VerbWords}
use Rattle.cli_grammar.specs.declared.kind.Kind.{Kind}
use Rattle.cli_grammar.specs.declared.verb_table.VerbName.{VerbName}
use Rattle.cli_grammar.specs.declared.verb_table.VerbName.TheVariants as verb
use Rattle.cli_grammar.specs.Grammar.{is_option, is_verb, suits}
use Rattle.cli_grammar.specs.Kinds.{fault_of, is_within, number_fault}
use Rattle.cli_grammar.specs.Numbers.{int_in}
use Rattle.cli_grammar.specs.Options.{has, last, last_or}
use Rattle.cli_grammar.specs.Reading.{kind_in}
use Rattle.cli_grammar.specs.Separators.{separator_in}
use Rattle.cli_grammar.specs.Verbs.{positive, row_of_verb}
use Rattle.mlr_spec.specs.Pairs.{are_distinct}
use Rattle.mlr_event.specs.declared.options.ReadOpts.{ReadOpts}
use Rattle.mlr_event.specs.declared.refusal.Why.{Why}
use Rattle.mlr_event.specs.declared.refusal.Why.TheVariants.{BadNumber}
use Rattle.verbs_seq.specs.Seq.{IsSoundSeq}
use Rattle.verbs_state.specs.Gap.{IsSoundGap}
use Rattle.verbs_state.specs.declared.gap.Gap.TheVariants.{Count, Groups}
use Rattle.cli_choices.specs.Choices.{count_in, count_of, count_or, names_after, own_word, separator_in_word}
use Rattle.cli_choices.specs.Names.{all_names}
use Rattle.cli_verbs.specs.Seqgen.{seqgen_of}
use Rattle.cli_verbs.specs.Clash.{clash_of, earlier, names_clash, option_clash}
use Rattle.cli_verbs.specs.Verbs.{IsGoodNamed, IsGoodVerb, IsVerbNamed, IsVerbOf}
use Rattle.cli_plan.specs.Accepting.{AreGoodAfter, clash_after, clash_among, is_source}
use Rattle.cli_plan.specs.Options.{read_of, write_of}
use Rattle.cli_plan.specs.Planning.{AreVerbsOf, IsMade}
use Rattle.cli_plan.specs.declared.settings.Settings.{Settings}
use Rattle.cli_plan.proofs.Readable.{can_read-left, has_bytes, is_usable, of_separator}

both : (a b : Bool) → (a && b) ≡ true → (a ≡ true) × (b ≡ true)
both true true is = (refl, refl)
both true false is = absurd (false≢true is)
both false b is = absurd (false≢true is)

-- What holds of the word of each option with this name holds of the word after the last one.
module _ (rows : List (List ℕ × Kind)) (name : List ℕ) (P : List ℕ → Type 0) (each : (given : Given) (word : List ℕ) → is_option rows given ≡ true → given.name ≡ name → given.argument ≡ Some word → P word) where
  word-holds : (given : Given) (argument : Option (List ℕ)) → given.argument ≡ argument → is_option rows given ≡ true → given.name ≡ name → IfSome argument P
  word-holds given None is fits named = tt
  word-holds given (Some word) is fits named = each given word fits named is

  next-holds : (given : Given) (before : Option (List ℕ)) (t : Bool) → bytes_eq given.name name ≡ t → is_option rows given ≡ true → IfSome before P → IfSome (if t then given.argument else before) P
  next-holds given before true named fits has = word-holds given given.argument refl fits ((bytes_eq-Decides given.name name).0 named)
  next-holds given before false named fits has = has

  pub last-holds : (options : List Given) (before : Option (List ℕ)) → list_all (is_option rows) options ≡ true → IfSome before P → IfSome (last_or before name options) P
  last-holds [] before all has = has
  last-holds (given ∷ options) before all has =
      let parts = both (is_option rows given) (list_all (is_option rows) options) all in
      last-holds options (if bytes_eq given.name name then given.argument else before) parts.1 (next-holds given before (bytes_eq given.name name) refl parts.0 has)

-- a count in a word that has to be at least 1
within-positive : (default : ℕ) (z : ℤ) → number_fault (is_within z (pos 1) (pos (2 ^ 63 - 1))) ≡ None → 1 ≤ count_of default z
within-positive default (pos zero) fine = absurd (let e = fine in cc)
within-positive default (pos (suc n)) fine = omega arith
within-positive default (negsuc n) fine = absurd (let e = fine in cc)

abbrev range_fault : Option ℤ → Option Why
range_fault number = elim number [ Some n ↦ number_fault (is_within n (pos 1) (pos (2 ^ 63 - 1))) | None ↦ Some BadNumber ]

abbrev count_from : ℕ → Option ℤ → ℕ
count_from default number = elim number [ Some n ↦ count_of default n | None ↦ default ]

in-positive : (default : ℕ) (number : Option ℤ) → range_fault number ≡ None → 1 ≤ count_from default number
in-positive default (Some z) fine = within-positive default z fine
in-positive default None fine = absurd (let e = fine in cc)

fault-none : (o : Option Why) → is_none o ≡ true → o ≡ None
fault-none None is = refl
fault-none (Some why) is = absurd (false≢true is)

-- the argument of an option that takes a positive count
positive-word : (default : ℕ) (rows : List (List ℕ × Kind)) (name : List ℕ) → kind_in rows name ≡ Some positive → (given : Given) (word : List ℕ) → is_option rows given ≡ true → given.name ≡ name → given.argument ≡ Some word
    → 1 ≤ count_in default word
positive-word default rows name kind given word fits named is =
    let suited : suits positive (Some word) ≡ true = sym (
    ap (λ o. elim o [ Some k ↦ suits k given.argument | None ↦ false ]) (ap (kind_in rows) named ∙ kind) ∙ ap (suits positive) is) ∙ fits in
    in-positive default (int_in word) (fault-none (fault_of positive word) suited)

-- a count that isn't 0 where no option gives it
abbrev count_after : ℕ → Option (List ℕ) → ℕ
count_after default o = elim o [ Some word ↦ count_in default word | None ↦ default ]

some-count : (default : ℕ) → 1 ≤ default → (o : Option (List ℕ)) → IfSome o (λ word. 1 ≤ count_in default word) → 1 ≤ count_after default o
some-count default least None has = least
some-count default least (Some word) has = has

count-positive : (default : ℕ) → 1 ≤ default → (rows : List (List ℕ × Kind)) (name : List ℕ) → kind_in rows name ≡ Some positive → (options : List Given) → list_all (is_option rows) options ≡ true
    → 1 ≤ count_or default name options
count-positive default least rows name kind options all =
    some-count default least (last name options)
    (last-holds rows name (λ word. 1 ≤ count_in default word) (positive-word default rows name kind) options None all tt)

-- a separator has bytes
pub has-length : (text : List ℕ) → has_bytes text ≡ true → 1 ≤ length text
has-length [] has = absurd (false≢true has)
has-length (b ∷ text) has = omega arith

abbrev text_or : List ℕ → Option (List ℕ) → List ℕ
text_or default o = elim o [ Some text ↦ text | None ↦ default ]

separator-length : (default : List ℕ) → 1 ≤ length default → (o : Option (List ℕ)) → is_usable o ≡ true → 1 ≤ length (text_or default o)
separator-length default least None usable = least
separator-length default least (Some text) usable = has-length text usable

abbrev separator_after : List ℕ → Option (List ℕ) → List ℕ
separator_after default o = elim o [ Some word ↦ separator_in_word default word | None ↦ default ]

separator-some : (default : List ℕ) → 1 ≤ length default → (o : Option (List ℕ)) → 1 ≤ length (separator_after default o)
separator-some default least None = least
separator-some default least (Some word) = separator-length default least (separator_in word) (of_separator word).yes

-- the first of two numbers, if there is one, or else the second
abbrev either : Option ℕ → Option ℕ → Option ℕ
either o other = elim o [ Some number ↦ Some number | None ↦ other ]

-- where no number is the lesser of two, there is none
no-earlier : (one other : Option ℕ) → earlier one other ≡ None → (one ≡ None) × (other ≡ None)
no-earlier (Some one) (Some other) none = absurd (let e = none in cc)
no-earlier (Some one) None none = absurd (let e = none in cc)
no-earlier None other none = (refl, none)

-- the names of `label` don't repeat where they don't clash
label-if : (given : VerbWords) (t : Bool) → are_distinct (all_names (own_word 0 given)) ≡ t → (if not t then Some given.own else None) ≡ None
    → are_distinct (all_names (own_word 0 given)) ≡ true
label-if given true is none = is
label-if given false is none = absurd (let e = none in cc)

label-distinct : (given : VerbWords) → earlier (option_clash given) (names_clash verb.Label given) ≡ None → are_distinct (all_names (own_word 0 given)) ≡ true
label-distinct given clear =
    label-if given (are_distinct (all_names (own_word 0 given))) refl (no-earlier (option_clash given) (names_clash verb.Label given) clear).1

gap-sound : (given : VerbWords) (t : Bool) → (t ≡ false → 1 ≤ count_or 1 (codes "-n") given.options) → IsSoundGap (if t then Groups (names_after (codes "-g") given.options) else Count (count_or 1 (codes "-n") given.options))
gap-sound given true least = tt
gap-sound given false least = least refl

-- a verb that is no source
as-stream : (given : VerbWords) (flatsep : List ℕ) (read : ReadOpts) → 1 ≤ length flatsep → (name : VerbName) → list_all (is_option (row_of_verb name).options) given.options ≡ true
    → earlier (option_clash given) (names_clash name given) ≡ None → is_source name ≡ false
    → (spec : VerbSpec) → IsVerbNamed name flatsep read given spec → IsVerb spec
as-stream given flatsep read sep verb.Altkv fits clear other spec is = subst IsVerb (sym is) tt
as-stream given flatsep read sep verb.Cat fits clear other spec is = subst IsVerb (sym is) tt
as-stream given flatsep read sep verb.Count fits clear other spec is = subst IsVerb (sym is) tt
as-stream given flatsep read sep verb.CountDistinct fits clear other spec is = subst IsVerb (sym is) tt
as-stream given flatsep read sep verb.CountSimilar fits clear other spec is = subst IsVerb (sym is) tt
as-stream given flatsep read sep verb.Cut fits clear other spec is = subst IsVerb (sym is.1) tt
as-stream given flatsep read sep verb.Decimate fits clear other spec is =
    subst IsVerb (sym is) (count-positive 10 (omega arith) (row_of_verb verb.Decimate).options (codes "-n") refl given.options fits)
as-stream given flatsep read sep verb.FillDown fits clear other spec is = subst IsVerb (sym is) tt
as-stream given flatsep read sep verb.FillEmpty fits clear other spec is = subst IsVerb (sym is) tt
as-stream given flatsep read sep verb.Flatten fits clear other spec is = subst IsVerb (sym is) (separator-some flatsep sep (last (codes "-s") given.options))
as-stream given flatsep read sep verb.Gap fits clear other spec is =
    subst IsVerb (sym is) (gap-sound given (has (codes "-g") given.options) (λ _. count-positive 1 (omega arith) (row_of_verb verb.Gap).options (codes "-n") refl given.options fits))
as-stream given flatsep read sep verb.Grep fits clear other spec is = subst IsVerb (sym is.1) tt
as-stream given flatsep read sep verb.GroupBy fits clear other spec is = subst IsVerb (sym is) tt
as-stream given flatsep read sep verb.GroupLike fits clear other spec is = subst IsVerb (sym is) tt
as-stream given flatsep read sep verb.Gsub fits clear other spec is = subst IsVerb (sym is.1) tt
as-stream given flatsep read sep verb.HavingFields fits clear other spec is = subst IsVerb (sym is.1) tt
as-stream given flatsep read sep verb.Head fits clear other spec is = subst IsVerb (sym is) tt
as-stream given flatsep read sep verb.Join fits clear other spec is = subst IsVerb (sym is) tt
as-stream given flatsep read sep verb.JsonParse fits clear other spec is = subst IsVerb (sym is) tt
as-stream given flatsep read sep verb.JsonStringify fits clear other spec is = subst IsVerb (sym is) tt
as-stream given flatsep read sep verb.Label fits clear other spec is =
    subst IsVerb (sym is) (label-distinct given clear)
as-stream given flatsep read sep verb.LeastFrequent fits clear other spec is = subst IsVerb (sym is) tt
as-stream given flatsep read sep verb.MergeFields fits clear other spec is = subst IsVerb (sym is.1) tt
as-stream given flatsep read sep verb.MostFrequent fits clear other spec is = subst IsVerb (sym is) tt
as-stream given flatsep read sep verb.Nest fits clear other spec is = subst IsVerb (sym is) tt
as-stream given flatsep read sep verb.Nothing fits clear other spec is = subst IsVerb (sym is) tt
as-stream given flatsep read sep verb.Regularize fits clear other spec is = subst IsVerb (sym is) tt
as-stream given flatsep read sep verb.Rename fits clear other spec is = subst IsVerb (sym is.1) tt
as-stream given flatsep read sep verb.Reorder fits clear other spec is = subst IsVerb (sym is) tt
as-stream given flatsep read sep verb.Repeat fits clear other spec is = subst IsVerb (sym is) tt
as-stream given flatsep read sep verb.Reshape fits clear other spec is = subst IsVerb (sym is.1) tt
as-stream given flatsep read sep verb.Sec2Gmt fits clear other spec is = subst IsVerb (sym is) tt
as-stream given flatsep read sep verb.Sec2GmtDate fits clear other spec is = subst IsVerb (sym is) tt
as-stream given flatsep read sep verb.Seqgen fits clear other spec is = absurd (false≢true (sym other))
as-stream given flatsep read sep verb.Sort fits clear other spec is = subst IsVerb (sym is) tt
as-stream given flatsep read sep verb.SortWithinRecords fits clear other spec is = subst IsVerb (sym is) tt
as-stream given flatsep read sep verb.Sparsify fits clear other spec is = subst IsVerb (sym is) tt
as-stream given flatsep read sep verb.Ssub fits clear other spec is = subst IsVerb (sym is) tt
as-stream given flatsep read sep verb.Stats1 fits clear other spec is = subst IsVerb (sym is) tt
as-stream given flatsep read sep verb.Step fits clear other spec is = subst IsVerb (sym is) tt
as-stream given flatsep read sep verb.Sub fits clear other spec is = subst IsVerb (sym is.1) tt
as-stream given flatsep read sep verb.Tac fits clear other spec is = subst IsVerb (sym is) tt
as-stream given flatsep read sep verb.Tail fits clear other spec is = subst IsVerb (sym is) tt
as-stream given flatsep read sep verb.Template fits clear other spec is = subst IsVerb (sym is) tt
as-stream given flatsep read sep verb.Top fits clear other spec is = subst IsVerb (sym is) tt
as-stream given flatsep read sep verb.Unflatten fits clear other spec is = subst IsVerb (sym is) (separator-some flatsep sep (last (codes "-s") given.options))
as-stream given flatsep read sep verb.Uniq fits clear other spec is = subst IsVerb (sym is) tt
as-stream given flatsep read sep verb.Unspace fits clear other spec is = subst IsVerb (sym is) tt
as-stream given flatsep read sep verb.Unsparsify fits clear other spec is = subst IsVerb (sym is) tt

-- the first verb may be a source, whose numbers were found sound
first-is : (name : VerbName) (given : VerbWords) (flatsep : List ℕ) (read : ReadOpts) (spec : VerbSpec) → is_source name ≡ true → IsVerbNamed name flatsep read given spec → spec ≡ Seq (seqgen_of given)
first-is verb.Seqgen given flatsep read spec source is = is
first-is verb.Altkv given flatsep read spec source is = absurd (false≢true source)
first-is verb.Cat given flatsep read spec source is = absurd (false≢true source)
first-is verb.Count given flatsep read spec source is = absurd (false≢true source)
first-is verb.CountDistinct given flatsep read spec source is = absurd (false≢true source)
first-is verb.CountSimilar given flatsep read spec source is = absurd (false≢true source)
first-is verb.Cut given flatsep read spec source is = absurd (false≢true source)
first-is verb.Decimate given flatsep read spec source is = absurd (false≢true source)
first-is verb.FillDown given flatsep read spec source is = absurd (false≢true source)
first-is verb.FillEmpty given flatsep read spec source is = absurd (false≢true source)
first-is verb.Flatten given flatsep read spec source is = absurd (false≢true source)
first-is verb.Gap given flatsep read spec source is = absurd (false≢true source)
first-is verb.Grep given flatsep read spec source is = absurd (false≢true source)
first-is verb.GroupBy given flatsep read spec source is = absurd (false≢true source)
first-is verb.GroupLike given flatsep read spec source is = absurd (false≢true source)
first-is verb.Gsub given flatsep read spec source is = absurd (false≢true source)
first-is verb.HavingFields given flatsep read spec source is = absurd (false≢true source)
first-is verb.Head given flatsep read spec source is = absurd (false≢true source)
first-is verb.Join given flatsep read spec source is = absurd (false≢true source)
first-is verb.JsonParse given flatsep read spec source is = absurd (false≢true source)
first-is verb.JsonStringify given flatsep read spec source is = absurd (false≢true source)
first-is verb.Label given flatsep read spec source is = absurd (false≢true source)
first-is verb.LeastFrequent given flatsep read spec source is = absurd (false≢true source)
first-is verb.MergeFields given flatsep read spec source is = absurd (false≢true source)
first-is verb.MostFrequent given flatsep read spec source is = absurd (false≢true source)
first-is verb.Nest given flatsep read spec source is = absurd (false≢true source)
first-is verb.Nothing given flatsep read spec source is = absurd (false≢true source)
first-is verb.Regularize given flatsep read spec source is = absurd (false≢true source)
first-is verb.Rename given flatsep read spec source is = absurd (false≢true source)
first-is verb.Reorder given flatsep read spec source is = absurd (false≢true source)
first-is verb.Repeat given flatsep read spec source is = absurd (false≢true source)
first-is verb.Reshape given flatsep read spec source is = absurd (false≢true source)
first-is verb.Sec2Gmt given flatsep read spec source is = absurd (false≢true source)
first-is verb.Sec2GmtDate given flatsep read spec source is = absurd (false≢true source)
first-is verb.Sort given flatsep read spec source is = absurd (false≢true source)
first-is verb.SortWithinRecords given flatsep read spec source is = absurd (false≢true source)
first-is verb.Sparsify given flatsep read spec source is = absurd (false≢true source)
first-is verb.Ssub given flatsep read spec source is = absurd (false≢true source)
first-is verb.Stats1 given flatsep read spec source is = absurd (false≢true source)
first-is verb.Step given flatsep read spec source is = absurd (false≢true source)
first-is verb.Sub given flatsep read spec source is = absurd (false≢true source)
first-is verb.Tac given flatsep read spec source is = absurd (false≢true source)
first-is verb.Tail given flatsep read spec source is = absurd (false≢true source)
first-is verb.Template given flatsep read spec source is = absurd (false≢true source)
first-is verb.Top given flatsep read spec source is = absurd (false≢true source)
first-is verb.Unflatten given flatsep read spec source is = absurd (false≢true source)
first-is verb.Uniq given flatsep read spec source is = absurd (false≢true source)
first-is verb.Unspace given flatsep read spec source is = absurd (false≢true source)
first-is verb.Unsparsify given flatsep read spec source is = absurd (false≢true source)

source-good : (name : VerbName) (given : VerbWords) → is_source name ≡ true → IsGoodNamed name given → IsSoundSeq (seqgen_of given)
source-good verb.Seqgen given source good = good
source-good verb.Altkv given source good = absurd (false≢true source)
source-good verb.Cat given source good = absurd (false≢true source)
source-good verb.Count given source good = absurd (false≢true source)
source-good verb.CountDistinct given source good = absurd (false≢true source)
source-good verb.CountSimilar given source good = absurd (false≢true source)
source-good verb.Cut given source good = absurd (false≢true source)
source-good verb.Decimate given source good = absurd (false≢true source)
source-good verb.FillDown given source good = absurd (false≢true source)
source-good verb.FillEmpty given source good = absurd (false≢true source)
source-good verb.Flatten given source good = absurd (false≢true source)
source-good verb.Gap given source good = absurd (false≢true source)
source-good verb.Grep given source good = absurd (false≢true source)
source-good verb.GroupBy given source good = absurd (false≢true source)
source-good verb.GroupLike given source good = absurd (false≢true source)
source-good verb.Gsub given source good = absurd (false≢true source)
source-good verb.HavingFields given source good = absurd (false≢true source)
source-good verb.Head given source good = absurd (false≢true source)
source-good verb.Join given source good = absurd (false≢true source)
source-good verb.JsonParse given source good = absurd (false≢true source)
source-good verb.JsonStringify given source good = absurd (false≢true source)
source-good verb.Label given source good = absurd (false≢true source)
source-good verb.LeastFrequent given source good = absurd (false≢true source)
source-good verb.MergeFields given source good = absurd (false≢true source)
source-good verb.MostFrequent given source good = absurd (false≢true source)
source-good verb.Nest given source good = absurd (false≢true source)
source-good verb.Nothing given source good = absurd (false≢true source)
source-good verb.Regularize given source good = absurd (false≢true source)
source-good verb.Rename given source good = absurd (false≢true source)
source-good verb.Reorder given source good = absurd (false≢true source)
source-good verb.Repeat given source good = absurd (false≢true source)
source-good verb.Reshape given source good = absurd (false≢true source)
source-good verb.Sec2Gmt given source good = absurd (false≢true source)
source-good verb.Sec2GmtDate given source good = absurd (false≢true source)
source-good verb.Sort given source good = absurd (false≢true source)
source-good verb.SortWithinRecords given source good = absurd (false≢true source)
source-good verb.Sparsify given source good = absurd (false≢true source)
source-good verb.Ssub given source good = absurd (false≢true source)
source-good verb.Stats1 given source good = absurd (false≢true source)
source-good verb.Step given source good = absurd (false≢true source)
source-good verb.Sub given source good = absurd (false≢true source)
source-good verb.Tac given source good = absurd (false≢true source)
source-good verb.Tail given source good = absurd (false≢true source)
source-good verb.Template given source good = absurd (false≢true source)
source-good verb.Top given source good = absurd (false≢true source)
source-good verb.Unflatten given source good = absurd (false≢true source)
source-good verb.Uniq given source good = absurd (false≢true source)
source-good verb.Unspace given source good = absurd (false≢true source)
source-good verb.Unsparsify given source good = absurd (false≢true source)

-- no verb clashes that comes after others
clear-after : (given : VerbWords) (t : Bool) → is_source given.verb ≡ t → (if true && t then Some given.number else clash_of given) ≡ None → (is_source given.verb ≡ false) × (clash_of given ≡ None)
clear-after given true source clear = absurd (let e = clear in cc)
clear-after given false source clear = (source, clear)

clear-first : (o : Option ℕ) (rest : Option ℕ) → either o rest ≡ None → (o ≡ None) × (rest ≡ None)
clear-first (Some number) rest clear = absurd (let e = clear in cc)
clear-first None rest clear = (refl, clear)

options-fit : (given : VerbWords) → is_verb given ≡ true → list_all (is_option (row_of_verb given.verb).options) given.options ≡ true
options-fit given is = (both (list_all (is_option (row_of_verb given.verb).options) given.options) _ is).0

module _ (flatsep : List ℕ) (sep : 1 ≤ length flatsep) (read : ReadOpts) where
  later-sound : (verbs : List VerbWords) (specs : List VerbSpec) → list_all is_verb verbs ≡ true → clash_among false verbs ≡ None → AreVerbsOf flatsep read verbs specs → AreVerbs specs
  later-sound [] [] all clear are = tt
  later-sound [] (spec ∷ specs) all clear are = absurd are
  later-sound (given ∷ verbs) [] all clear are = absurd are
  later-sound (given ∷ verbs) (spec ∷ specs) all clear are =
      let parts = both (is_verb given) (list_all is_verb verbs) all in
      let split = clear-first (clash_after false given) (clash_among false verbs) clear in
      let here = clear-after given (is_source given.verb) refl split.0 in
      (as-stream given flatsep read sep given.verb (options-fit given parts.0) here.1 here.0 spec are.0, later-sound verbs specs parts.1 split.1 are.1)

  first-sound : (given : VerbWords) (spec : VerbSpec) (specs : List VerbSpec) (t : Bool) → is_source given.verb ≡ t → is_verb given ≡ true → IsGoodVerb given → clash_of given ≡ None → IsVerbOf flatsep read given spec
      → AreVerbs specs → AreSound (spec ∷ specs)
  first-sound given spec specs true source is good clear means rest =
      subst (λ s. AreSound (s ∷ specs)) (sym (first-is given.verb given flatsep read spec source means)) (source-good given.verb given source good, rest)
  first-sound given spec specs false source is good clear means rest =
      stream-first spec specs (as-stream given flatsep read sep given.verb (options-fit given is) clear source spec means) rest
    where
      stream-first : (spec : VerbSpec) (specs : List VerbSpec) → IsVerb spec → AreVerbs specs → AreSound (spec ∷ specs)
      stream-first (Stream spec) specs is rest = (is, rest)
      stream-first (Retain spec) specs is rest = rest
      stream-first (Shape spec) specs is rest = rest
      stream-first (Stat spec) specs is rest = rest
      stream-first (Seq seq) specs is rest = absurd is

  pub verbs-sound : (verbs : List VerbWords) (specs : List VerbSpec) → list_all is_verb verbs ≡ true → AreGoodAfter 0 verbs → clash_among true verbs ≡ None → AreVerbsOf flatsep read verbs specs → AreSound specs
  verbs-sound [] [] all good clear are = tt
  verbs-sound [] (spec ∷ specs) all good clear are = absurd are
  verbs-sound (given ∷ verbs) [] all good clear are = absurd are
  verbs-sound (given ∷ verbs) (spec ∷ specs) all good clear are =
      let parts = both (is_verb given) (list_all is_verb verbs) all in
      let split = clear-first (clash_after true given) (clash_among false verbs) clear in
      first-sound given spec specs (is_source given.verb) refl parts.0 good.0.1 split.0 are.0 (later-sound verbs specs parts.1 split.1 are.1)

-- the left file of a verb can be read where the main inputs can, and only `join` has one
left-readable : (flatsep : List ℕ) (read : ReadOpts) → can_read read ≡ true → (name : VerbName) (given : VerbWords) (spec : VerbSpec) → IsVerbNamed name flatsep read given spec → can_read_left spec ≡ true
left-readable flatsep read readable verb.Cut given spec is = ap can_read_left is.1
left-readable flatsep read readable verb.Grep given spec is = ap can_read_left is.1
left-readable flatsep read readable verb.Gsub given spec is = ap can_read_left is.1
left-readable flatsep read readable verb.HavingFields given spec is = ap can_read_left is.1
left-readable flatsep read readable verb.Join given spec is = ap can_read_left is ∙ can_read-left read given readable
left-readable flatsep read readable verb.MergeFields given spec is = ap can_read_left is.1
left-readable flatsep read readable verb.Rename given spec is = ap can_read_left is.1
left-readable flatsep read readable verb.Reshape given spec is = ap can_read_left is.1
left-readable flatsep read readable verb.Sub given spec is = ap can_read_left is.1
left-readable flatsep read readable _ given spec is = ap can_read_left is

pub lefts-readable : (flatsep : List ℕ) (read : ReadOpts) → can_read read ≡ true → (verbs : List VerbWords) (specs : List VerbSpec) → AreVerbsOf flatsep read verbs specs → list_all can_read_left specs ≡ true
lefts-readable flatsep read readable [] [] are = refl
lefts-readable flatsep read readable [] (spec ∷ specs) are = absurd are
lefts-readable flatsep read readable (given ∷ verbs) [] are = absurd are
lefts-readable flatsep read readable (given ∷ verbs) (spec ∷ specs) are =
    and_from (can_read_left spec) (list_all can_read_left specs) (left-readable flatsep read readable given.verb given spec are.0) (lefts-readable flatsep read readable verbs specs are.1)

-- the first style is that of standard output
not-nil : {A : Type 0} (x : A) → x ∷ [] ≡ [] → ⊥
not-nil x e = cc

-- a plan with these verbs can be run
pub plan-sound : (settings : Settings) (flags : List Given) (names : List (List ℕ)) (specs : List VerbSpec) (plan : Plan) → can_read (read_of settings) ≡ true → AreSound specs → list_all can_read_left specs ≡ true → IsMade settings flags names specs plan → IsSound plan
plan-sound settings flags names specs plan readable sound lefts made = record {
  readable = ap can_read made.read ∙ readable;
  verbs = subst AreSound (sym made.verbs_are) sound;
  lefts = ap (list_all can_read_left) made.verbs_are ∙ lefts;
  styled = λ none. not-nil (write_of settings) (sym made.styles ∙ none);
}

-- what holds of a value holds of another, if it follows from it
pub each-ok : {A E : Type 0} (P Q : A → Type 0) (result : Result A E) → ((a : A) → P a → Q a) → IfOk result P → IfOk result Q
each-ok P Q (Ok a) follows holds = follows a holds
each-ok P Q (Err e) follows holds = tt

-- the first of two numbers is none, and the second too
pub clear-verbs : (flags : Option ℕ) (verbs : Option ℕ) → either flags verbs ≡ None → verbs ≡ None
clear-verbs flags verbs clear = (clear-first flags verbs clear).1
