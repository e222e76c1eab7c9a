-- A run, from turn to turn.
use Rattle.std.proofs.Common.{◌≡◌, ℕ, ◌<◌, ◌^◌, List, [], ◌++◌, Option, Some, None, refl, ap, sym, ◌∙◌, subst, inl, arith}
use Rattle.mlr_event.specs.declared.event.Event.{Event}
use Rattle.mlr_event.specs.declared.names.InputName.{InputName}
use Rattle.mlr_event.specs.declared.names.Target.TheVariants.{Stdout}
use Rattle.mlr_event.specs.Verb.{Verb}
use Rattle.mlr_world.specs.Counts.{Rose}
use Rattle.mlr_world.specs.Inputs.{Contents}
use Rattle.mlr_world.specs.Outputs.{Held, ChangesAt, with_bytes}
use Rattle.mlr_world.specs.Taken.{Take, OpenEntry}
use Rattle.mlr_world.proofs.Changes.{ChangesAt-none, ChangesAt-then, with_bytes-none}
use Rattle.outlet.specs.Out.{out_of}
use Rattle.verb_chain.specs.Chain.{chain}
use Rattle.std.specs.Prelude.{IfSome}
use Rattle.std.specs.Option.{option_map}
use Rattle.std.proofs.lemmas.List.{append-nil}
use Rattle.read_files.specs.Takes.{ArePrefixesTaken, After, total}
use Rattle.serial_core.specs.declared.answer.Ended.{Ended}
use Rattle.serial_core.specs.declared.answer.Ended.TheVariants as answer
use Rattle.serial_core.specs.declared.serial.Serial.{Serial}
use Rattle.serial_core.specs.declared.serial.SerialTurn.TheVariants.{Went, Over}
use Rattle.serial_core.specs.Meaning.{meaning_of, text}
use Rattle.serial_core.specs.Command.{Command, names_of}
use Rattle.serial_core.specs.Answer.{IsOfNoInput}
use Rattle.serial_core.specs.Run.{HoldsFew, Run}
use Rattle.serial_core.specs.Whole.{whole_of}
use Rattle.serial_core.specs.Represents.{Begins, InputCause, Leaves, MayGoOn, Ran, SerialRepresents}
use Rattle.serial_core.proofs.Stopping.{EndsEarly, MeansWhole, following-prefixes, total-on}
use Rattle.serial_core.proofs.Wholes.{goes-whole}
use Rattle.outlet.proofs.Following.{whole-following}
use Rattle.serial_core.proofs.Turns.{leaves-following, reader-order}

-- how far a run has come
pub record Going {S : Type 0} (verb : S → Verb) (represents : S → List Event → Type 0) (command : Command) (before : Option (List Take)) (contents : Option Contents) (taken : Option (List Take)) (name : Option OpenEntry) (first held : Option Held) (serial : Serial S) : Type 0 where
  pub given : List Take
  pub read : List Event
  pub shown : List Event
  pub at : SerialRepresents verb represents command given read shown serial
  pub following : After before given contents taken name
  pub may_go_on : MayGoOn command given
  pub leaves : ChangesAt Stdout (λ b n. n ≡ with_bytes (out_of command.write shown) b) first held

-- nothing was taken after what was taken before
pub following-none : (contents : Option Contents) (taken : Option (List Take)) (name : Option OpenEntry) → After taken [] contents taken name
following-none contents taken name = record { entries = same taken; prefixes = none contents taken; open_is = tt }
  where
    same : (taken : Option (List Take)) → taken ≡ option_map (λ takes. takes ++ []) taken
    same None = refl
    same (Some takes) = ap Some (sym (append-nil takes))

    none : (contents : Option Contents) (taken : Option (List Take)) → IfSome contents (λ told. IfSome taken (λ _. ArePrefixesTaken told []))
    none None taken = tt
    none (Some told) None = tt
    none (Some told) (Some takes) = tt

module _ {S : Type 0} (verb : S → Verb) (represents : S → List Event → Type 0) (command : Command) (before : Option (List Take)) (contents : Option Contents) where
  pub going-first : (taken : Option (List Take)) (name : Option OpenEntry) (held : Option Held) (serial : Serial S) → Begins verb represents command serial → After before [] contents taken name
      → Going verb represents command before contents taken name held held serial
  going-first taken name held serial begins following = record {
    given = [];
    read = [];
    shown = [];
    at = begins;
    following = following;
    may_go_on = inl refl;
    leaves = ChangesAt-none Stdout (λ b n. n ≡ with_bytes (out_of command.write []) b) with_bytes-none held;
  }

  module _ (taken : Option (List Take)) (name : Option OpenEntry) (first held : Option Held) (serial : Serial S) (now : Going verb represents command before contents taken name first held serial)
      (after : Serial S) (taken' : Option (List Take)) (name' : Option OpenEntry) (held' : Option Held) where
    pub going-on : Ran Went verb represents command before now.given now.read now.shown after contents taken' name' held held' → Going verb represents command before contents taken' name' first held' after
    going-on ran = record {
      given = ran.given';
      read = now.read ++ ran.outcome.put;
      shown = chain command.verbs (now.read ++ ran.outcome.put);
      at = ran.outcome.represent;
      following = ran.took.following;
      may_go_on = ran.outcome.may_go_on;
      leaves =
          ChangesAt-then Stdout (λ b n. n ≡ with_bytes (out_of command.write now.shown) b) (λ b n. n ≡ with_bytes ran.outcome.more b)
          (λ b n. n ≡ with_bytes (out_of command.write (chain command.verbs (now.read ++ ran.outcome.put))) b)
          (λ a b c one two. whole-following (out_of command.write now.shown) ran.outcome.more a b c one two ∙ ap (λ t. with_bytes t a) (sym ran.outcome.text))
          first held held' now.leaves ran.outcome.leaves;
    }

    pub came-over : EndsEarly command before contents → MeansWhole command before contents → (ended : Ended) → Ran (Over ended) verb represents command before now.given now.read now.shown after contents taken' name' held held' → Run ended (meaning_of command) contents before taken' name' first held'
    came-over ends means ended ran =
        let leaves = ChangesAt-then Stdout (λ b n. n ≡ with_bytes (out_of command.write now.shown) b) (Leaves ended ran.outcome.more) (Leaves ended (text (meaning_of command) ran.given'))
        (λ a b c one two. subst (λ t. Leaves ended t a c) (sym ran.outcome.text) (leaves-following ended command ran.given' ran.outcome.says (out_of command.write now.shown) ran.outcome.more a b c one two))
        first held held' now.leaves ran.outcome.leaves in
        record {
          given = ran.given';
          order = ran.took.order;
          following = ran.took.following;
          few = ran.took.few;
          says = ran.outcome.says;
          leaves = leaves;
          early = ends now.given ran.given' taken name (reader-order command.origin now.given now.read serial.reader now.at.reader) now.following now.may_go_on ran.outcome.early ran.took.one_read;
          whole = means ended ran.given' taken' name' first held' ran.took.order ran.took.following ran.outcome.says leaves;
        }

-- counts after calls that changed none
pub cause-from : (ended : Ended) (f0 f1 f2 : InputName → ℕ) → ((name : InputName) → f1 name ≡ f0 name) → InputCause ended f1 f2 → InputCause ended f0 f2
cause-from answer.Done f0 f1 f2 same cause = λ name. cause name ∙ same name
cause-from (answer.Refused refusal) f0 f1 f2 same cause = λ name. cause name ∙ same name
cause-from (answer.Data fault) f0 f1 f2 same cause = λ name. cause name ∙ same name
cause-from (answer.Read name) f0 f1 f2 same cause = (λ other. omega (arith, same other, cause.0 other), omega (arith, same name, cause.1))
cause-from (answer.Written target) f0 f1 f2 same cause = λ name. cause name ∙ same name
cause-from answer.TooLong f0 f1 f2 same cause = λ name. cause name ∙ same name
cause-from answer.NoMemory f0 f1 f2 same cause = λ name. cause name ∙ same name

-- where no input fails, and all hold few bytes, the outcome is of no input
pub completes : (command : Command) (contents : Option Contents) (taken taken' : Option (List Take)) (name' : Option OpenEntry) (held held' : Option Held) → HoldsFew (meaning_of command) contents taken
    → (ended : Ended) → Run ended (meaning_of command) contents taken taken' name' held held' → (f0 f1 : InputName → ℕ) → InputCause ended f0 f1 → ((name : InputName) → Rose (f0 name) (f1 name) → ⊥) → IsOfNoInput ended
completes command contents taken taken' name' held held' holds answer.Done run f0 f1 cause reads = tt
completes command contents taken taken' name' held held' holds (answer.Refused refusal) run f0 f1 cause reads = run.says
completes command contents taken taken' name' held held' holds (answer.Data fault) run f0 f1 cause reads = tt
completes command contents taken taken' name' held held' holds (answer.Read name) run f0 f1 cause reads = reads name cause.1
completes command contents taken taken' name' held held' holds (answer.Written target) run f0 f1 cause reads = tt
completes command contents taken taken' name' held held' holds answer.TooLong run f0 f1 cause reads =
    let prefixes = following-prefixes taken run.given contents taken' name' run.following holds.told holds.before holds.contents_told holds.taken_told in
    let all : total run.given ≡ 2 ^ 60 = run.says.1 in
    let few : total (whole_of holds.told (names_of command.origin)) < 2 ^ 60 = holds.few in
    omega (arith, all, few, total-on run.given (whole_of holds.told (names_of command.origin)) (goes-whole holds.told (names_of command.origin) run.given run.order prefixes))
completes command contents taken taken' name' held held' holds answer.NoMemory run f0 f1 cause reads = tt
