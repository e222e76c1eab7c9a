-- How little a run takes.
use Rattle.std.proofs.Common.{◌≡◌, ℕ, ◌+◌, ◌<◌, ◌≤◌, true, false, List, [], ◌∷◌, ◌++◌, length, Option, Some, None, refl, ap, sym, ◌∙◌, subst, inl, inr, arith, length-append}
use Rattle.std.specs.Prelude.{◌⊎◌, IfSome}
use Rattle.std.specs.Option.{option_map}
use Rattle.std.proofs.lemmas.Bool.{cases_Bool, cases_lt, true≢false}
use Rattle.std.proofs.lemmas.List.{append-nil}
use Rattle.mlr_event.specs.declared.event.Event.{Event}
use Rattle.mlr_event.specs.declared.names.InputName.{InputName}
use Rattle.mlr_event.specs.declared.names.Target.TheVariants.{Stdout}
use Rattle.mlr_event.specs.declared.options.ReadOpts.{ReadOpts}
use Rattle.mlr_event.specs.Verb.{is_list, is_open}
use Rattle.mlr_world.specs.Inputs.{Contents}
use Rattle.mlr_world.specs.Outputs.{Held, ChangesAt}
use Rattle.mlr_world.specs.Taken.{Take, OpenEntry}
use Rattle.verb_chain.specs.Chain.{chain}
use Rattle.read_files.specs.Takes.{ArePrefixesTaken, After, GoesOn, InOrder, taken_by, total}
use Rattle.read_files.specs.Sources.{events_taken, source}
use Rattle.serial_core.specs.declared.answer.Ended.{Ended}
use Rattle.serial_core.specs.Meaning.{meaning_of, text}
use Rattle.serial_core.specs.Command.{Command, Origin, files, numbers, given_by, names_of, result}
use Rattle.serial_core.specs.Run.{StopsEarly}
use Rattle.serial_core.specs.Represents.{Leaves, MayGoOn, Says}
use Rattle.serial_core.specs.Whole.{OfWhole}
use Rattle.serial_core.proofs.Origins.{open-source}
use Rattle.serial_core.proofs.Turning.{last-alone}

-- the laws of what inputs give
abbrev pub SourceList : Type 0
SourceList = (opts : ReadOpts) (names : List InputName) (given : List Take) → is_list (source opts names given) ≡ true

abbrev pub SourceGrows : Type 0
SourceGrows = (opts : ReadOpts) (names : List InputName) (given longer : List Take) → InOrder names given → GoesOn given longer → (more : List Event) × (source opts names longer ≡ events_taken opts given ++ more)

abbrev pub SourceFixed : Type 0
SourceFixed = (opts : ReadOpts) (names : List InputName) (given longer : List Take) → InOrder names given → InOrder names longer → GoesOn given longer → is_open (source opts names given) ≡ false
    → source opts names longer ≡ source opts names given

abbrev pub SourceEarly : Type 0
SourceEarly = (told : Contents) (names : List InputName) (given : List Take) (n : ℕ) → InOrder names given → ArePrefixesTaken told given → n < total given → GoesOn (taken_by told names n) given × InOrder names (taken_by told names n)

-- a run that continued while its result might ends early with the next read
abbrev pub EndsEarly : Command → Option (List Take) → Option Contents → Type 0
EndsEarly command before contents = (given given' : List Take) (taken : Option (List Take)) (name : Option OpenEntry) → InOrder (names_of command.origin) given → After before given contents taken name → MayGoOn command given
    → (given' ≡ given) ⊎ (is_open (result command given) ≡ true) → total given' < total given + 65536 → IfSome contents (λ told. IfSome before (λ _. StopsEarly (meaning_of command) told given'))

-- a run that ended so left what the outcome says by all that the inputs hold
abbrev pub MeansWhole : Command → Option (List Take) → Option Contents → Type 0
MeansWhole command before contents = (ended : Ended) (given : List Take) (taken : Option (List Take)) (name : Option OpenEntry) (held held' : Option Held) → InOrder (names_of command.origin) given → After before given contents taken name
    → Says ended (meaning_of command) given → ChangesAt Stdout (Leaves ended (text (meaning_of command) given)) held held' → IfSome contents (λ told. IfSome before (λ _. OfWhole ended (meaning_of command) told held held'))

none-order : (names : List InputName) → InOrder names []
none-order [] = tt
none-order (name ∷ names) = tt

-- as more is taken no byte is lost
pub total-on : (given longer : List Take) → GoesOn given longer → total given ≤ total longer
total-on [] longer on = omega arith
total-on (t ∷ given) [] on = absurd on
total-on (t ∷ given) (u ∷ longer) on = omega (arith, total-on given longer on.1, ap length on.0.1.1, length-append t.bytes on.0.1.0)

-- what was taken, where contents and takes are known
pub following-prefixes : (before : Option (List Take)) (given : List Take) (contents : Option Contents) (taken : Option (List Take)) (name : Option OpenEntry) → After before given contents taken name
    → (told : Contents) (takes : List Take) → contents ≡ Some told → before ≡ Some takes → ArePrefixesTaken told given
following-prefixes before given contents taken name following told takes told_is takes_is =
    subst (λ c. IfSome c (λ told. ArePrefixesTaken told given)) told_is
    (subst (λ t. IfSome contents (λ told. IfSome t (λ _. ArePrefixesTaken told given))) (following.entries ∙ ap (option_map (λ takes. takes ++ given)) takes_is) following.prefixes)

pub if-both : {A B : Type 0} (o : Option A) (p : Option B) (P : A → Type 0) → ((a : A) (b : B) → o ≡ Some a → p ≡ Some b → P a) → IfSome o (λ a. IfSome p (λ _. P a))
if-both None p P holds = tt
if-both (Some a) None P holds = tt
if-both (Some a) (Some b) P holds = holds a b refl refl

module _ (lists : SourceList) (grows : SourceGrows) (fixed : SourceFixed) (command : Command)
    (growth : (events following : List Event) → (more : List Event) × (chain command.verbs (events ++ following) ≡ chain command.verbs events ++ more))
    (chained : (events : List Event) → is_list events ≡ true → is_list (chain command.verbs events) ≡ true) where
  -- a result with an end or a fault stays as it is when more is taken
  origin-fixed : (origin : Origin) (given longer : List Take) → InOrder (names_of origin) given → InOrder (names_of origin) longer → GoesOn given longer → is_open (chain command.verbs (given_by origin given)) ≡ false
      → chain command.verbs (given_by origin longer) ≡ chain command.verbs (given_by origin given)
  origin-fixed (numbers seq) given longer order order' on closed = refl
  origin-fixed (files opts names) given longer order order' on closed = elim (cases_Bool (is_open (source opts names given))) [
    | inl opens ↦
        let more = grows opts names given longer order on in
        let made = growth (source opts names given) more.0 in
        let all : chain command.verbs (source opts names longer) ≡ chain command.verbs (source opts names given) ++ made.0 =
        ap (chain command.verbs) (more.1 ∙ ap (λ t. t ++ more.0) (sym (open-source opts names given opens))) ∙ made.1 in
        all
        ∙ ap (λ t. chain command.verbs (source opts names given) ++ t) (last-alone (chain command.verbs (source opts names given)) made.0 closed (sym (ap is_list all) ∙ chained (source opts names longer) (lists opts names longer)))
        ∙ append-nil (chain command.verbs (source opts names given))
    | inr shut ↦ ap (chain command.verbs) (fixed opts names given longer order order' on shut)
  ]

  pub result-fixed : (given longer : List Take) → InOrder (names_of command.origin) given → InOrder (names_of command.origin) longer → GoesOn given longer → is_open (result command given) ≡ false → result command longer ≡ result command given
  result-fixed given longer order order' on closed = origin-fixed command.origin given longer order order' on closed

  -- a run continues only while the result may
  nothing-taken : (given : List Take) → MayGoOn command given → is_open (result command given) ≡ false → given ≡ []
  nothing-taken given (inl nothing) closed = nothing
  nothing-taken given (inr opens) closed = absurd (true≢false (sym opens ∙ closed))

  module _ (early : SourceEarly) (told : Contents) (given given' : List Take) (order : InOrder (names_of command.origin) given) (prefixes : ArePrefixesTaken told given) (may : MayGoOn command given) where
    at-once : (given' ≡ given) ⊎ (is_open (result command given) ≡ true) → is_open (result command []) ≡ false → given' ≡ []
    at-once ends closed =
        let now : is_open (result command given) ≡ false = ap is_open (result-fixed [] given (none-order (names_of command.origin)) order tt closed) ∙ closed in
        elim ends [ inl same ↦ same ∙ nothing-taken given may now | inr opens ↦ absurd (true≢false (sym opens ∙ now)) ]

    soon : total given' < total given + 65536 → (n : ℕ) → is_open (result command (taken_by told (names_of command.origin) n)) ≡ false → total given' < n + 65536
    soon one n closed = elim (cases_lt n (total given)) [
      | inl less ↦
          let on = early told (names_of command.origin) given n order prefixes less in
          let now : is_open (result command given) ≡ false = ap is_open (result-fixed (taken_by told (names_of command.origin) n) given on.1 order on.0 closed) ∙ closed in
          absurd (omega (arith, less, ap total (nothing-taken given may now)))
      | inr more ↦ omega (arith, more, one)
    ]

    stops-early : (given' ≡ given) ⊎ (is_open (result command given) ≡ true) → total given' < total given + 65536 → StopsEarly (meaning_of command) told given'
    stops-early ends one = record { at_once = at-once ends; soon = soon one }

  pub stopped-early : SourceEarly → (before : Option (List Take)) (contents : Option Contents) → EndsEarly command before contents
  stopped-early early before contents given given' taken name order following may ends one =
      if-both contents before (λ told. StopsEarly (meaning_of command) told given')
      (λ told takes told_is takes_is. stops-early early told given given' order (following-prefixes before given contents taken name following told takes told_is takes_is) may ends one)
