-- What a read and a pass give together.
use Rattle.std.proofs.Common.{◌≡◌, ℕ, Bool, true, false, not, ◌||◌, ◌&&◌, List, [], ◌∷◌, ◌++◌, Option, Some, None, refl, ap, sym, ◌∙◌, append_assoc, inl, inr, arith}
use Rattle.std.specs.List.{list_any}
use Rattle.std.proofs.lemmas.Bool.{and_parts, cases_Bool, true≢false}
use Rattle.std.proofs.lemmas.List.{append-nil}
use Rattle.mlr_event.specs.declared.event.Event.{Event}
use Rattle.mlr_event.specs.declared.event.Event.TheVariants as event
use Rattle.mlr_event.specs.declared.fault.Fault.{Fault}
use Rattle.mlr_event.specs.declared.names.InputName.{InputName}
use Rattle.mlr_event.specs.declared.names.Target.{Target}
use Rattle.mlr_event.specs.declared.names.Target.TheVariants.{Stdout}
use Rattle.mlr_world.specs.Counts.{Counted}
use Rattle.mlr_event.specs.Verb.{Verb, is_end, is_last, is_list, is_open}
use Rattle.mlr_event.proofs.Ordered.{open-before}
use Rattle.mlr_world.specs.Outputs.{Held, ChangesAt}
use Rattle.mlr_world.proofs.Changes.{ChangesAt-map}
use Rattle.writers.specs.declared.options.WriteOpts.{WriteOpts}
use Rattle.outlet.specs.Out.{fault_in, out_of}
use Rattle.outlet.specs.Represents.{AppendsPrefix, CountedIf}
use Rattle.outlet.proofs.Following.{prefix-longer}
use Rattle.verb_chain.specs.Chain.{chain}
use Rattle.read_files.specs.declared.reader.ReadTurn.{ReadTurn}
use Rattle.read_files.specs.declared.reader.ReadTurn.TheVariants as turn
use Rattle.read_files.specs.Represents.{TurnCause}
use Rattle.serial_core.specs.declared.answer.Ended.{Ended}
use Rattle.serial_core.specs.declared.answer.Ended.TheVariants as answer
use Rattle.mlr_world.specs.Taken.{Take}
use Rattle.serial_core.specs.Meaning.{meaning_of}
use Rattle.serial_core.specs.Command.{Command, result}
use Rattle.serial_core.specs.Represents.{InputCause, Leaves, Says, TurnCounts, WriteLeaves, WriteSays, following, turn_failed, turn_lacks}

-- no count rose but in a read that failed
pub turn-same : (read : ReadTurn) (f0 f1 : InputName → ℕ) → ((name : InputName) → read ≡ turn.Failed name → ⊥) → TurnCause read f0 f1 → (name : InputName) → f1 name ≡ f0 name
turn-same turn.Went f0 f1 other cause = cause
turn-same turn.Ended f0 f1 other cause = cause
turn-same (turn.Failed name) f0 f1 other cause = absurd (other name refl)
turn-same turn.TooLong f0 f1 other cause = cause
turn-same turn.NoMemory f0 f1 other cause = cause

pub following-cause : (read : ReadTurn) (f0 f1 : InputName → ℕ) → TurnCause read f0 f1 → TurnCounts (following read) f0 f1
following-cause turn.Went f0 f1 cause = cause
following-cause turn.Ended f0 f1 cause = cause
following-cause (turn.Failed name) f0 f1 cause = cause
following-cause turn.TooLong f0 f1 cause = cause
following-cause turn.NoMemory f0 f1 cause = cause

pub following-counts : (read : ReadTurn) (f0 f1 : Target → ℕ) → Counted false f0 f1 Stdout → Counted (turn_failed (following read)) f0 f1 Stdout
following-counts turn.Went f0 f1 same = same
following-counts turn.Ended f0 f1 same = same
following-counts (turn.Failed name) f0 f1 same = same
following-counts turn.TooLong f0 f1 same = same
following-counts turn.NoMemory f0 f1 same = same

pub following-lacks : (read : ReadTurn) (s0 s1 : ℕ) → s1 ≡ s0 → CountedIf (turn_lacks (following read)) s0 s1
following-lacks turn.Went s0 s1 same = same
following-lacks turn.Ended s0 s1 same = same
following-lacks (turn.Failed name) s0 s1 same = same
following-lacks turn.TooLong s0 s1 same = same
following-lacks turn.NoMemory s0 s1 same = omega (arith, same)

-- an outcome of a write says nothing of the inputs
pub written-cause : (ended : Ended) (events : List Event) (f0 f1 : InputName → ℕ) → WriteSays (Some ended) events → ((name : InputName) → f1 name ≡ f0 name) → InputCause ended f0 f1
written-cause answer.Done events f0 f1 says same = same
written-cause (answer.Refused refusal) events f0 f1 says same = absurd says
written-cause (answer.Data fault) events f0 f1 says same = same
written-cause (answer.Read name) events f0 f1 says same = absurd says
written-cause (answer.Written target) events f0 f1 says same = same
written-cause answer.TooLong events f0 f1 says same = absurd says
written-cause answer.NoMemory events f0 f1 says same = same

-- a prefix of a list is one
pub list-prefix : (xs ys : List Event) → is_list (xs ++ ys) ≡ true → is_list xs ≡ true
list-prefix [] ys list = refl
list-prefix (x ∷ []) ys list = refl
list-prefix (x ∷ y ∷ xs) ys list =
    let parts = and_parts (not (is_last x)) (is_list ((y ∷ xs) ++ ys)) list in
    ap (λ b. b && is_list (y ∷ xs)) parts.0 ∙ list-prefix (y ∷ xs) ys parts.1

-- nothing follows a list with an end or a fault
pub last-alone : (xs ys : List Event) → is_open xs ≡ false → is_list (xs ++ ys) ≡ true → ys ≡ []
last-alone xs [] closed list = refl
last-alone xs (y ∷ ys) closed list = absurd (true≢false (sym (open-before xs y ys list) ∙ closed))

end-last : (e : Event) → is_end e ≡ true → is_last e ≡ true
end-last (event.Rec fields ctx) is = absurd (let f : false ≡ true = is in cc)
end-last (event.Text text) is = absurd (let f : false ≡ true = is in cc)
end-last (event.Out target piece) is = absurd (let f : false ≡ true = is in cc)
end-last (event.End ctx) is = refl
end-last (event.Fault fault) is = absurd (let f : false ≡ true = is in cc)

or-true : (b : Bool) → (b || true) ≡ true
or-true true = refl
or-true false = refl

ends-last : (events : List Event) → list_any is_end events ≡ true → list_any is_last events ≡ true
ends-last [] is = absurd (let f : false ≡ true = is in cc)
ends-last (e ∷ events) is = elim (cases_Bool (is_end e)) as (λ _. list_any is_last (e ∷ events) ≡ true) [
  | inl end ↦ ap (λ b. b || list_any is_last events) (end-last e end)
  | inr other ↦ ap (λ b. is_last e || b) (ends-last events (sym (ap (λ b. b || list_any is_end events) other) ∙ is)) ∙ or-true (is_last e)
]

pub end-closes : (events : List Event) → list_any is_end events ≡ true → is_open events ≡ false
end-closes events is = ap not (ends-last events is)

fault-lasts : (events : List Event) (fault : Fault) → fault_in events ≡ Some fault → list_any is_last events ≡ true
fault-lasts [] fault is = absurd (let f : None ≡ Some fault = is in cc)
fault-lasts (event.Rec fields ctx ∷ events) fault is = fault-lasts events fault is
fault-lasts (event.Text text ∷ events) fault is = fault-lasts events fault is
fault-lasts (event.Out target piece ∷ events) fault is = fault-lasts events fault is
fault-lasts (event.End ctx ∷ events) fault is = refl
fault-lasts (event.Fault found ∷ events) fault is = refl

pub fault-closes : (events : List Event) (fault : Fault) → fault_in events ≡ Some fault → is_open events ≡ false
fault-closes events fault is = ap not (fault-lasts events fault is)

-- What a command makes of what was taken, where these events were read of it, and more may be fixed.
module _ (write : WriteOpts) (verbs : List Verb) (read put rest given : List Event)
    (given_is : given ≡ (read ++ put) ++ rest)
    (list : is_list (chain verbs given) ≡ true)
    (grows : (events following : List Event) → (more : List Event) × (chain verbs (events ++ following) ≡ chain verbs events ++ more))
    (writes : (events following : List Event) → is_open events ≡ true → (more : List ℕ) × (out_of write (events ++ following) ≡ out_of write events ++ more)) where
  later : (more : List Event) × (chain verbs given ≡ chain verbs (read ++ put) ++ more)
  later = let more = grows (read ++ put) rest in (more.0, ap (chain verbs) given_is ∙ more.1)

  -- all is made where an end or a fault was
  pub made-whole : is_open (chain verbs (read ++ put)) ≡ false → chain verbs given ≡ chain verbs (read ++ put)
  made-whole closed =
      later.1
      ∙ ap (λ t. chain verbs (read ++ put) ++ t) (last-alone (chain verbs (read ++ put)) later.0 closed (sym (ap is_list later.1) ∙ list))
      ∙ append-nil (chain verbs (read ++ put))

  text-later : (more : List ℕ) × (out_of write (chain verbs given) ≡ out_of write (chain verbs (read ++ put)) ++ more)
  text-later = elim (cases_Bool (is_open (chain verbs (read ++ put)))) [
    | inl opens ↦ let more = writes (chain verbs (read ++ put)) later.0 opens in (more.0, ap (out_of write) later.1 ∙ more.1)
    | inr closed ↦ ([], ap (out_of write) (made-whole closed) ∙ sym (append-nil (out_of write (chain verbs (read ++ put)))))
  ]

  -- the text after one that was written
  text-following : (shown more : List ℕ) → out_of write (chain verbs (read ++ put)) ≡ shown ++ more → out_of write (chain verbs given) ≡ shown ++ (more ++ text-later.0)
  text-following shown more is = text-later.1 ∙ ap (λ t. t ++ text-later.0) is ∙ append_assoc shown more text-later.0

  -- An outcome of a write, by the text that was written.
  pub record Over (ended : Ended) (command : Command) (takes : List Take) (shown : List ℕ) (held held' : Option Held) : Type 0 where
    pub says : Says ended (meaning_of command) takes
    pub more : List ℕ
    pub text : out_of write (chain verbs given) ≡ shown ++ more
    pub leaves : ChangesAt Stdout (Leaves ended more) held held'

  pub written-over : (ended : Ended) (command : Command) (takes : List Take) → result command takes ≡ chain verbs given → WriteSays (Some ended) (chain verbs (read ++ put))
      → (shown more : List ℕ) (held held' : Option Held) → out_of write (chain verbs (read ++ put)) ≡ shown ++ more → ChangesAt Stdout (WriteLeaves (Some ended) more) held held'
      → Over ended command takes shown held held'
  written-over answer.Done command takes is says shown more held held' text leaves =
      let whole = made-whole (end-closes (chain verbs (read ++ put)) says) in
      record { says = ap (list_any is_end) (is ∙ whole) ∙ says; more = more; text = ap (out_of write) whole ∙ text; leaves = leaves }
  written-over (answer.Refused refusal) command takes is says shown more held held' text leaves = absurd says
  written-over (answer.Data fault) command takes is says shown more held held' text leaves =
      let whole = made-whole (fault-closes (chain verbs (read ++ put)) fault says) in
      record { says = ap fault_in (is ∙ whole) ∙ says; more = more; text = ap (out_of write) whole ∙ text; leaves = leaves }
  written-over (answer.Read name) command takes is says shown more held held' text leaves = absurd says
  written-over (answer.Written target) command takes is says shown more held held' text leaves = record {
    says = says;
    more = more ++ text-later.0;
    text = text-following shown more text;
    leaves = ChangesAt-map Stdout (AppendsPrefix more) (AppendsPrefix (more ++ text-later.0)) (prefix-longer more text-later.0) held held' leaves;
  }
  written-over answer.TooLong command takes is says shown more held held' text leaves = absurd says
  written-over answer.NoMemory command takes is says shown more held held' text leaves = record {
    says = tt;
    more = more ++ text-later.0;
    text = text-following shown more text;
    leaves = ChangesAt-map Stdout (AppendsPrefix more) (AppendsPrefix (more ++ text-later.0)) (prefix-longer more text-later.0) held held' leaves;
  }
