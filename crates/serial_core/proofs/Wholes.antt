-- What was taken of inputs, and all that they hold.
use Rattle.std.proofs.Common.{◌≡◌, ℕ, true, false, List, [], ◌∷◌, ◌++◌, Option, Some, None, refl, ap, sym, ◌∙◌, subst, append_assoc, inl, inr}
use Rattle.std.specs.List.{list_any}
use Rattle.std.proofs.lemmas.Bool.{cases_Bool}
use Rattle.std.proofs.lemmas.List.{append-nil}
use Rattle.mlr_event.specs.declared.event.Event.{Event}
use Rattle.mlr_event.specs.declared.names.InputName.{InputName}
use Rattle.mlr_event.specs.declared.names.Target.TheVariants.{Stdout}
use Rattle.mlr_event.specs.Verb.{is_end, is_list, is_open}
use Rattle.mlr_world.specs.Inputs.{Contents}
use Rattle.mlr_world.specs.Outputs.{Held, ChangesAt, with_bytes}
use Rattle.mlr_world.specs.Taken.{Take}
use Rattle.mlr_world.proofs.Changes.{ChangesAt-map}
use Rattle.outlet.specs.Out.{fault_in, out_of}
use Rattle.outlet.specs.Represents.{AppendsPrefix}
use Rattle.verb_chain.specs.Chain.{chain}
use Rattle.read_files.specs.Takes.{ArePrefixesTaken, GoesOn, InOrder, IsPrefixTaken}
use Rattle.read_files.specs.Sources.{source}
use Rattle.writers.specs.declared.options.WriteOpts.{WriteOpts}
use Rattle.serial_core.specs.declared.answer.Ended.{Ended}
use Rattle.serial_core.specs.declared.answer.Ended.TheVariants as answer
use Rattle.serial_core.specs.Meaning.{Meaning, meaning_of, text}
use Rattle.serial_core.specs.Command.{Command, Origin, files, numbers, given_by, names_of, result}
use Rattle.serial_core.specs.Represents.{Leaves, Says}
use Rattle.serial_core.specs.Whole.{Gets, OfWhole, whole_of}
use Rattle.serial_core.proofs.Origins.{open-source}
use Rattle.serial_core.proofs.Stopping.{MeansWhole, SourceFixed, SourceGrows, SourceList, following-prefixes, if-both, result-fixed}
use Rattle.serial_core.proofs.Turning.{end-closes, fault-closes}

in-order-next : (name : InputName) (names : List InputName) (take : Take) (takes : List Take) → take.name ≡ name → take.ended ≡ true → InOrder names takes → InOrder (name ∷ names) (take ∷ takes)
in-order-next name names take [] same ended order = same
in-order-next name names take (next ∷ takes) same ended order = (same, ended, order)

-- all that inputs hold is taken in their order
pub whole-order : (told : Contents) (names : List InputName) → InOrder names (whole_of told names)
whole-order told [] = tt
whole-order told (name ∷ names) = from (whole-order told names) (told name)
  where
    from : InOrder names (whole_of told names) → (holds : Option (List ℕ))
        → InOrder (name ∷ names) (elim holds [ None ↦ [] | Some bytes ↦ record { name = name; bytes = bytes; ended = true } ∷ whole_of told names ])
    from order None = tt
    from order (Some bytes) = in-order-next name names (record { name = name; bytes = bytes; ended = true }) (whole_of told names) refl refl order

one-whole : (told : Contents) (name : InputName) (names : List InputName) (take : Take) (takes : List Take) → take.name ≡ name → IsPrefixTaken told take → GoesOn takes (whole_of told names) → GoesOn (take ∷ takes) (whole_of told (name ∷ names))
one-whole told name names take takes same taken following = from (told name) refl
  where
    from : (holds : Option (List ℕ)) → told name ≡ holds → GoesOn (take ∷ takes) (elim holds [ None ↦ [] | Some bytes ↦ record { name = name; bytes = bytes; ended = true } ∷ whole_of told names ])
    from None is = absurd (let e : Some (take.bytes ++ taken.0) ≡ None = sym taken.1 ∙ ap told same ∙ is in let f = e in cc)
    from (Some bytes) is =
        let e : Some (take.bytes ++ taken.0) ≡ Some bytes = sym taken.1 ∙ ap told same ∙ is in
        ((sym same, (taken.0, (let f : bytes ≡ take.bytes ++ taken.0 = cc in f), λ ended. (taken.2 ended, refl))), following)

-- what was taken is a part of it
pub goes-whole : (told : Contents) (names : List InputName) (given : List Take) → InOrder names given → ArePrefixesTaken told given → GoesOn given (whole_of told names)
goes-whole told names [] order taken = tt
goes-whole told [] (take ∷ given) order taken = absurd order
goes-whole told (name ∷ names) (take ∷ []) order taken = one-whole told name names take [] order taken.0 tt
goes-whole told (name ∷ names) (take ∷ next ∷ given) order taken = one-whole told name names take (next ∷ given) order.0 taken.0 (goes-whole told names (next ∷ given) order.2 taken.1)

-- what standard output gets grows with the events
abbrev pub TextGrows : Type 0
TextGrows = (opts : WriteOpts) (events following : List Event) → is_open events ≡ true → (more : List ℕ) × (out_of opts (events ++ following) ≡ out_of opts events ++ more)

-- a prefix of a text is one of a longer text
longer-prefix : (shorter more : List ℕ) (all : List ℕ) → all ≡ shorter ++ more → (before now : Option (List ℕ)) → AppendsPrefix shorter before now → AppendsPrefix all before now
longer-prefix shorter more all is before now got = (got.0, (got.1.0 ++ more, is ∙ ap (λ t. t ++ more) got.1.1 ∙ append_assoc got.0 got.1.0 more), got.2)

-- What comes out is fixed once it has an end or a fault, and the text grows as more is taken.
abbrev pub ResultFixed : Meaning → Type 0
ResultFixed meaning = (given longer : List Take) → InOrder meaning.names given → InOrder meaning.names longer → GoesOn given longer → is_open (meaning.result given) ≡ false → meaning.result longer ≡ meaning.result given

abbrev pub ResultGrows : Meaning → Type 0
ResultGrows meaning = (given longer : List Take) → InOrder meaning.names given → InOrder meaning.names longer → GoesOn given longer → (more : List ℕ) × (text meaning longer ≡ text meaning given ++ more)

module _ (meaning : Meaning) (fixed : ResultFixed meaning) (grows : ResultGrows meaning) (told : Contents) (given : List Take) (order : InOrder meaning.names given) (prefixes : ArePrefixesTaken told given) (held held' : Option Held) where
  abbrev whole : List Take
  whole = whole_of told meaning.names

  same-whole : is_open (meaning.result given) ≡ false → meaning.result whole ≡ meaning.result given
  same-whole closed =
      fixed given whole order (whole-order told meaning.names) (goes-whole told meaning.names given order prefixes) closed

  more-whole : (more : List ℕ) × (text meaning whole ≡ text meaning given ++ more)
  more-whole = grows given whole order (whole-order told meaning.names) (goes-whole told meaning.names given order prefixes)

  gets-prefix : ChangesAt Stdout (AppendsPrefix (text meaning given)) held held' → ChangesAt Stdout (AppendsPrefix (text meaning whole)) held held'
  gets-prefix leaves =
      ChangesAt-map Stdout (AppendsPrefix (text meaning given)) (AppendsPrefix (text meaning whole)) (longer-prefix (text meaning given) more-whole.0 (text meaning whole) more-whole.1) held held' leaves

  gets-all : ChangesAt Stdout (λ before now. now ≡ with_bytes (text meaning given) before) held held' → ChangesAt Stdout (AppendsPrefix (text meaning whole)) held held'
  gets-all leaves =
      ChangesAt-map Stdout (λ before now. now ≡ with_bytes (text meaning given) before) (AppendsPrefix (text meaning whole))
      (λ before now is. (text meaning given, (more-whole.0, more-whole.1), is)) held held' leaves

  pub of-whole : (ended : Ended) → Says ended meaning given → ChangesAt Stdout (Leaves ended (text meaning given)) held held' → OfWhole ended meaning told held held'
  of-whole answer.Done says leaves =
      let same = same-whole (end-closes (meaning.result given) says) in
      record { verdict = ap (list_any is_end) same ∙ says; gets = subst (λ t. ChangesAt Stdout (Gets answer.Done (out_of meaning.write t)) held held') (sym same) leaves }
  of-whole (answer.Refused refusal) says leaves = absurd says
  of-whole (answer.Data fault) says leaves =
      let same = same-whole (fault-closes (meaning.result given) fault says) in
      record { verdict = ap fault_in same ∙ says; gets = subst (λ t. ChangesAt Stdout (Gets (answer.Data fault) (out_of meaning.write t)) held held') (sym same) leaves }
  of-whole (answer.Read name) says leaves = record { verdict = tt; gets = gets-all leaves }
  of-whole (answer.Written target) says leaves = record { verdict = tt; gets = gets-prefix leaves }
  of-whole answer.TooLong says leaves = record { verdict = tt; gets = gets-all leaves }
  of-whole answer.NoMemory says leaves = record { verdict = tt; gets = gets-prefix leaves }

module _ (lists : SourceList) (grows : SourceGrows) (fixed : SourceFixed) (command : Command)
    (growth : (events following : List Event) → (more : List Event) × (chain command.verbs (events ++ following) ≡ chain command.verbs events ++ more))
    (chained : (events : List Event) → is_list events ≡ true → is_list (chain command.verbs events) ≡ true) (texts : TextGrows) where
  -- the result of more that was taken extends an open one
  open-grows : (origin : Origin) (given longer : List Take) → InOrder (names_of origin) given → InOrder (names_of origin) longer → GoesOn given longer
      → (more : List Event) × (chain command.verbs (given_by origin longer) ≡ chain command.verbs (given_by origin given) ++ more)
  open-grows (numbers seq) given longer order order' on = ([], sym (append-nil (chain command.verbs (given_by (numbers seq) given))))
  open-grows (files opts names) given longer order order' on = elim (cases_Bool (is_open (source opts names given))) [
    | inl opens ↦
        let more = grows opts names given longer order on in
        let made = growth (source opts names given) more.0 in
        (made.0, ap (chain command.verbs) (more.1 ∙ ap (λ t. t ++ more.0) (sym (open-source opts names given opens))) ∙ made.1)
    | inr shut ↦ ([], ap (chain command.verbs) (fixed opts names given longer order order' on shut) ∙ sym (append-nil (chain command.verbs (source opts names given))))
  ]

  -- the text of less that was taken is a prefix of that of more
  pub text-grows : (given longer : List Take) → InOrder (names_of command.origin) given → InOrder (names_of command.origin) longer → GoesOn given longer → (more : List ℕ) × (text (meaning_of command) longer ≡ text (meaning_of command) given ++ more)
  text-grows given longer order order' on = elim (cases_Bool (is_open (result command given))) [
    | inl opens ↦
        let more = open-grows command.origin given longer order order' on in
        let written = texts command.write (result command given) more.0 opens in
        (written.0, ap (out_of command.write) more.1 ∙ written.1)
    | inr shut ↦ ([], ap (out_of command.write) (result-fixed lists grows fixed command growth chained given longer order order' on shut) ∙ sym (append-nil (text (meaning_of command) given)))
  ]

  pub means-whole : (before : Option (List Take)) (contents : Option Contents) → MeansWhole command before contents
  means-whole before contents ended given taken name held held' order following says leaves =
      if-both contents before (λ told. OfWhole ended (meaning_of command) told held held')
      (λ told takes told_is takes_is. of-whole (meaning_of command) (result-fixed lists grows fixed command growth chained) text-grows told given order (following-prefixes before given contents taken name following told takes told_is takes_is) held held' ended says leaves)
