-- A write of what is pending, and then a read.
use Rattle.std.proofs.Common.{◌≡◌, ℕ, ◌<◌, ◌^◌, true, List, [], ◌∷◌, ◌++◌, Option, Some, None, refl, ap, sym, ◌∙◌, subst, append_assoc, arith, inl}
use Rattle.std.proofs.lemmas.List.{append-nil}
use Rattle.mlr_event.specs.declared.event.Event.{Event}
use Rattle.mlr_event.specs.declared.event.Event.TheVariants as event
use Rattle.mlr_event.specs.declared.names.InputName.{InputName}
use Rattle.mlr_event.specs.declared.names.Target.TheVariants.{Stdout}
use Rattle.mlr_event.specs.declared.options.ReadOpts.{ReadOpts}
use Rattle.mlr_event.specs.Verb.{KeepsOrder, Verb, is_list, is_open}
use Rattle.mlr_event.proofs.Ordered.{open-list}
use Rattle.mlr_world.specs.Inputs.{Contents}
use Rattle.mlr_world.specs.Outputs.{Held, with_bytes}
use Rattle.mlr_world.specs.Taken.{Take, OpenEntry}
use Rattle.mlr_world.proofs.Changes.{ChangesAt-then}
use Rattle.outlet.specs.Out.{out_of}
use Rattle.outlet.specs.Represents.{Represents}
use Rattle.outlet.proofs.Following.{prefix-following, whole-following}
use Rattle.verb_chain.specs.Chain.{chain}
use Rattle.verb_chain.specs.Represents as chains
use Rattle.verb_chain.proofs.Chains.{chain-list}
use Rattle.read_files.specs.Takes.{After, InOrder, total}
use Rattle.std.specs.Prelude.{if◌then◌else◌}
use Rattle.read_files.specs.Sources.{ctx_from, is_whole, source, zero_context}
use Rattle.serial_core.specs.declared.answer.Ended.{Ended}
use Rattle.serial_core.specs.declared.answer.Ended.TheVariants as answer
use Rattle.serial_core.specs.declared.reader.Reader.{Reader}
use Rattle.serial_core.specs.declared.reader.Reader.TheVariants as reader
use Rattle.serial_core.specs.declared.serial.Serial.{Serial}
use Rattle.serial_core.specs.declared.serial.SerialTurn.{SerialTurn}
use Rattle.serial_core.specs.declared.serial.SerialTurn.TheVariants.{Went, Over}
use Rattle.serial_core.specs.Meaning.{meaning_of}
use Rattle.serial_core.specs.Command.{Command, Origin, files, numbers, given_by, names_of}
use Rattle.serial_core.specs.Reading.{ReaderRepresents}
use Rattle.serial_core.specs.Represents.{Leaves, Outcome, Ran, Says, SerialRepresents, Settled, WriteSays, Wrote}
use Rattle.serial_core.proofs.Origins.{all-from, all-list, goes-on, rest-from}
use Rattle.serial_core.proofs.Turning.{written-over}

-- What a reader says of what was taken.
pub reader-order : (origin : Origin) (given : List Take) (read : List Event) (old : Reader) → ReaderRepresents origin given read old → InOrder (names_of origin) given
reader-order (files opts names) given read (reader.Files all) represents = represents.0.order
reader-order (files opts names) given read (reader.Numbers all) represents = absurd represents
reader-order (numbers seq) given read (reader.Files all) represents = absurd represents
reader-order (numbers seq) given read (reader.Numbers all) represents = subst (InOrder []) (sym represents.4) tt

pub reader-few : (origin : Origin) (given : List Take) (read : List Event) (old : Reader) → ReaderRepresents origin given read old → total given < 2 ^ 60
reader-few (files opts names) given read (reader.Files all) represents = represents.0.few
reader-few (files opts names) given read (reader.Numbers all) represents = absurd represents
reader-few (numbers seq) given read (reader.Files all) represents = absurd represents
reader-few (numbers seq) given read (reader.Numbers all) represents = omega (arith, ap total represents.4)

pub reader-rest : (origin : Origin) (given : List Take) (read : List Event) (old : Reader) → ReaderRepresents origin given read old → (rest : List Event) × (given_by origin given ≡ read ++ rest)
reader-rest (files opts names) given read (reader.Files all) represents =
    let end = (if is_whole opts names given then event.End (ctx_from opts zero_context given) ∷ [] else []) in
    (end, ap (λ xs. xs ++ end) (sym represents.1))
reader-rest (files opts names) given read (reader.Numbers all) represents = absurd represents
reader-rest (numbers seq) given read (reader.Files all) represents = absurd represents
reader-rest (numbers seq) given read (reader.Numbers all) represents = (rest-from seq represents.0, all-from seq represents.0 represents.2.within ∙ ap (λ xs. xs ++ rest-from seq represents.0) (sym represents.3))

pub origin-list : (lists : (opts : ReadOpts) (names : List InputName) (given : List Take) → is_list (source opts names given) ≡ true) → (origin : Origin) (given : List Take) → is_list (given_by origin given) ≡ true
origin-list lists (files opts names) given = lists opts names given
origin-list lists (numbers seq) given = all-list seq

pub leaves-following : (ended : Ended) (command : Command) (takes : List Take) → Says ended (meaning_of command) takes → (text more : List ℕ) (a b c : Option (List ℕ)) → b ≡ with_bytes text a → Leaves ended more b c → Leaves ended (text ++ more) a c
leaves-following answer.Done command takes says text more a b c first second = whole-following text more a b c first second
leaves-following (answer.Refused refusal) command takes says text more a b c first second = absurd says
leaves-following (answer.Data fault) command takes says text more a b c first second = whole-following text more a b c first second
leaves-following (answer.Read name) command takes says text more a b c first second = whole-following text more a b c first second
leaves-following (answer.Written target) command takes says text more a b c first second = prefix-following text more a b c first second
leaves-following answer.TooLong command takes says text more a b c first second = whole-following text more a b c first second
leaves-following answer.NoMemory command takes says text more a b c first second = prefix-following text more a b c first second

module _ {S : Type 0} (verb : S → Verb) (represents : S → List Event → Type 0) (orderly : (s : S) → KeepsOrder (verb s))
    (command : Command) (given : List Take) (read shown : List Event) (serial : Serial S) (at : SerialRepresents verb represents command given read shown serial) where
  pub chained : (events : List Event) → is_list events ≡ true → is_list (chain command.verbs events) ≡ true
  chained events list = subst (λ vs. is_list (chain vs events) ≡ true) at.verbs (chain-list verb represents orderly true serial.stages.stages.items events list)

  pub list-at-hand : is_list (shown ++ serial.events) ≡ true
  list-at-hand = sym (ap is_list at.at_hand) ∙ chained read (sym (ap is_list (append-nil read)) ∙ open-list read [] at.clear refl)

  pub settled-following : (now : Serial S) → now.reader ≡ serial.reader → now.stages ≡ serial.stages → now.events ≡ [] → Represents command.write (shown ++ serial.events) now.outlet → Settled verb represents command given read now
  settled-following now same_reader same_stages none outlet = record {
    all = record {
      reader = subst (ReaderRepresents command.origin given read) (sym same_reader) at.reader;
      clear = at.clear;
      verbs = ap (chains.verbs_in verb) same_stages ∙ at.verbs;
      stages = subst (chains.Represents verb represents read) (sym same_stages) at.stages;
      outlet = subst (λ t. Represents command.write t now.outlet) (sym at.at_hand) outlet;
      at_hand = sym (append-nil (chain command.verbs read)) ∙ ap (λ t. chain command.verbs read ++ t) (sym none);
    };
    nothing = none;
  }

  -- it is over before a read
  pub over-written : (grows : (events following : List Event) → (more : List Event) × (chain command.verbs (events ++ following) ≡ chain command.verbs events ++ more))
      (writes : (events following : List Event) → is_open events ≡ true → (more : List ℕ) × (out_of command.write (events ++ following) ≡ out_of command.write events ++ more))
      → is_list (given_by command.origin given) ≡ true
      → (before : Option (List Take)) (contents : Option Contents) (taken : Option (List Take)) (name : Option OpenEntry) → After before given contents taken name
      → (ended : Ended) (now : Serial S) (held held' : Option Held) → Wrote (Some ended) command.write shown serial.events held held'
      → Ran (Over ended) verb represents command before given read shown now contents taken name held held'
  over-written grows writes list before contents taken name following ended now held held' wrote =
      let rest = reader-rest command.origin given read serial.reader at.reader in
      let is : shown ++ serial.events ≡ chain command.verbs (read ++ []) = sym at.at_hand ∙ ap (chain command.verbs) (sym (append-nil read)) in
      let over = written-over command.write command.verbs read [] rest.0 (given_by command.origin given) (rest.1 ∙ ap (λ t. t ++ rest.0) (sym (append-nil read))) (chained (given_by command.origin given) list) grows writes
      ended command given refl (subst (WriteSays (Some ended)) is wrote.says) (out_of command.write shown) wrote.more held held' (ap (out_of command.write) (sym is) ∙ wrote.text) wrote.leaves in
      record {
        given' = given;
        took = record {
          order = reader-order command.origin given read serial.reader at.reader;
          goes_on = goes-on given;
          following = following;
          one_read = omega arith;
          few = omega (arith, reader-few command.origin given read serial.reader at.reader);
        };
        outcome = record { says = over.says; more = over.more; text = over.text; leaves = over.leaves; early = inl refl };
      }

  -- a read after a write
  outcome-following : (turned : SerialTurn) (given' : List Take) (after : Serial S) (held held' held'' : Option Held) → Wrote None command.write shown serial.events held held'
      → Outcome turned verb represents command given given' read (chain command.verbs read) after held' held'' → Outcome turned verb represents command given given' read shown after held held''
  outcome-following Went given' after held held' held'' wrote o = record {
    put = o.put;
    rest = o.rest;
    events = o.events;
    few = o.few;
    goes = o.goes;
    may_go_on = o.may_go_on;
    came_on = o.came_on;
    represent = o.represent;
    more = wrote.more ++ o.more;
    text = o.text ∙ ap (λ t. t ++ o.more) (ap (out_of command.write) at.at_hand ∙ wrote.text) ∙ append_assoc (out_of command.write shown) wrote.more o.more;
    leaves = ChangesAt-then Stdout (λ b n. n ≡ with_bytes wrote.more b) (λ b n. n ≡ with_bytes o.more b) (λ b n. n ≡ with_bytes (wrote.more ++ o.more) b) (whole-following wrote.more o.more) held held' held'' wrote.leaves o.leaves;
  }
  outcome-following (Over ended) given' after held held' held'' wrote o = record {
    says = o.says;
    more = wrote.more ++ o.more;
    text = o.text ∙ ap (λ t. t ++ o.more) (ap (out_of command.write) at.at_hand ∙ wrote.text) ∙ append_assoc (out_of command.write shown) wrote.more o.more;
    leaves = ChangesAt-then Stdout (λ b n. n ≡ with_bytes wrote.more b) (Leaves ended o.more) (Leaves ended (wrote.more ++ o.more)) (leaves-following ended command given' o.says wrote.more o.more) held held' held'' wrote.leaves o.leaves;
    early = o.early;
  }

  pub ran-following : (turned : SerialTurn) (before : Option (List Take)) (after : Serial S) (contents : Option Contents) (taken : Option (List Take)) (name : Option OpenEntry) (held held' held'' : Option Held)
      → Wrote None command.write shown serial.events held held' → Ran turned verb represents command before given read (chain command.verbs read) after contents taken name held' held''
      → Ran turned verb represents command before given read shown after contents taken name held held''
  ran-following turned before after contents taken name held held' held'' wrote ran = record {
    given' = ran.given';
    took = ran.took;
    outcome = outcome-following turned ran.given' after held held' held'' wrote ran.outcome;
  }
