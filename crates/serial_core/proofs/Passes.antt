-- A read, and a pass of what it pushed.
use Rattle.std.proofs.Common.{◌≡◌, ℕ, true, List, [], ◌++◌, Option, Some, None, refl, ap, sym, ◌∙◌, subst, append_assoc, inl, inr}
use Rattle.std.specs.Prelude.{◌⊎◌}
use Rattle.std.proofs.lemmas.Bool.{true≢false}
use Rattle.std.proofs.lemmas.List.{append-nil}
use Rattle.mlr_event.specs.declared.event.Event.{Event}
use Rattle.mlr_event.specs.declared.names.InputName.{InputName}
use Rattle.mlr_event.specs.declared.names.Target.TheVariants.{Stdout}
use Rattle.mlr_event.specs.Verb.{KeepsOrder, Verb, is_list, is_open}
use Rattle.mlr_world.specs.Inputs.{Contents}
use Rattle.mlr_world.specs.Outputs.{Held}
use Rattle.mlr_world.specs.Taken.{Take, OpenEntry}
use Rattle.mlr_world.proofs.Changes.{ChangesAt-none, with_bytes-none}
use Rattle.writers.specs.declared.options.WriteOpts.{WriteOpts}
use Rattle.outlet.specs.Out.{out_of}
use Rattle.outlet.specs.Represents.{Represents}
use Rattle.outlet.proofs.Writing.{unwritten}
use Rattle.verb_chain.specs.Chain.{chain}
use Rattle.verb_chain.specs.Represents as chains
use Rattle.verb_chain.proofs.Chains.{chain-list}
use Rattle.verb_chain.proofs.Closing.{chain-closes}
use Rattle.read_files.specs.declared.reader.ReadTurn.{ReadTurn}
use Rattle.read_files.specs.declared.reader.ReadTurn.TheVariants as turn
use Rattle.serial_core.specs.declared.answer.Ended.{Ended}
use Rattle.serial_core.specs.declared.answer.Ended.TheVariants as answer
use Rattle.serial_core.specs.declared.reader.Reader.{Reader}
use Rattle.serial_core.specs.declared.serial.Serial.{Serial}
use Rattle.serial_core.specs.Command.{Command, given_by, result}
use Rattle.serial_core.specs.Reading.{Read, ReadSays, ReaderRepresents}
use Rattle.serial_core.specs.Represents.{CameOver, CanPass, Leaves, MayGoOn, Outcome, Passed, Settled, WentOn, following}
use Rattle.serial_core.proofs.Turning.{list-prefix, written-over}

module _ {S : Type 0} (verb : S → Verb) (represents : S → List Event → Type 0) (orderly : (s : S) → KeepsOrder (verb s))
    (grows : (verbs : List Verb) (events following : List Event) → (more : List Event) × (chain verbs (events ++ following) ≡ chain verbs events ++ more))
    (writes : (opts : WriteOpts) (events following : List Event) → is_open events ≡ true → (more : List ℕ) × (out_of opts (events ++ following) ≡ out_of opts events ++ more))
    (command : Command) (before : Option (List Take)) (given : List Take) (read : List Event) (serial : Serial S) (settled : Settled verb represents command given read serial)
    (took : ReadTurn) (after : Reader) (contents : Option Contents) (taken' : Option (List Take)) (name' : Option OpenEntry) (out' : List Event)
    (r : Read took command.origin before given read after contents taken' name' serial.events out') where
  -- what the verbs make of all that is given is a list
  made-list : is_list (chain command.verbs (given_by command.origin r.given')) ≡ true
  made-list =
      subst (λ vs. is_list (chain vs (given_by command.origin r.given')) ≡ true) settled.all.verbs
      (chain-list verb represents orderly true serial.stages.stages.items (given_by command.origin r.given') r.list)

  put-is : (took ≡ turn.NoMemory → ⊥) → out' ≡ r.put
  put-is memory = r.appends memory ∙ ap (λ t. t ++ r.put) settled.nothing

  pub can-pass : (took ≡ turn.NoMemory → ⊥) → CanPass verb represents command.write read (record { reader = after; stages = serial.stages; outlet = serial.outlet; events = out' })
  can-pass memory = record {
    stages = settled.all.stages;
    outlet = subst (λ vs. Represents command.write (chain vs read) serial.outlet) (sym settled.all.verbs) settled.all.outlet;
    list = ap (λ t. is_list (read ++ t)) (put-is memory) ∙ list-prefix (read ++ r.put) r.rest (sym (ap is_list r.events) ∙ r.list);
  }

  -- the pass, as one of this command
  passed-as : (took ≡ turn.NoMemory → ⊥) → (ended : Option Ended) (now : Serial S) (held held' : Option Held)
      → Passed ended verb represents command.write (chains.verbs_in verb serial.stages) read out' now held held' → Passed ended verb represents command.write command.verbs read r.put now held held'
  passed-as memory ended now held held' p =
      subst (λ t. Passed ended verb represents command.write command.verbs read t now held held') (put-is memory)
      (subst (λ vs. Passed ended verb represents command.write vs read out' now held held') settled.all.verbs p)

  -- no more was taken, or more could be made before it was
  early-so : (r.given' ≡ given) ⊎ (given_by command.origin given ≡ read) → (r.given' ≡ given) ⊎ (is_open (result command given) ≡ true)
  early-so (inl same) = inl same
  early-so (inr all) = inr (ap (λ t. is_open (chain command.verbs t)) all ∙ settled.all.outlet.clear)

  pub over-passed : (took ≡ turn.NoMemory → ⊥) → (ended : Ended) (now : Serial S) (held held' : Option Held)
      → Passed (Some ended) verb represents command.write (chains.verbs_in verb serial.stages) read out' now held held' → CameOver ended command given r.given' (chain command.verbs read) held held'
  over-passed memory ended now held held' as_passed =
      let p = passed-as memory (Some ended) now held held' as_passed in
      let over = written-over command.write command.verbs read r.put r.rest (given_by command.origin r.given') r.events made-list (grows command.verbs) (writes command.write) ended command r.given' refl p.says (out_of command.write (chain command.verbs read)) p.more held held' p.text p.leaves in
      record { says = over.says; more = over.more; text = over.text; leaves = over.leaves; early = early-so r.early }

  -- nothing remains to be read
  all-read : r.rest ≡ [] → given_by command.origin r.given' ≡ read ++ r.put
  all-read none = r.events ∙ ap (λ t. (read ++ r.put) ++ t) none ∙ append-nil (read ++ r.put)

  open-result : r.rest ≡ [] → is_open (chain command.verbs (read ++ r.put)) ≡ true → is_open (result command r.given') ≡ true
  open-result none opens = ap (λ t. is_open (chain command.verbs t)) (all-read none) ∙ opens

  may-go-on : is_open (chain command.verbs (read ++ r.put)) ≡ true → (r.rest ≡ []) ⊎ (r.given' ≡ []) → MayGoOn command r.given'
  may-go-on opens (inl none) = inr (open-result none opens)
  may-go-on opens (inr nothing) = inl nothing

  went-passed : (memory : took ≡ turn.NoMemory → ⊥) (now : Serial S) (held held' : Option Held) → ReadSays turn.Went command.origin r.given' (read ++ r.put) r.rest → took ≡ turn.Went → now.reader ≡ after
      → Passed None verb represents command.write command.verbs read r.put now held held' → WentOn verb represents command given r.given' read (chain command.verbs read) now held held'
  went-passed memory now held held' says is same p =
      let stood = p.represent refl in
      record {
        put = r.put;
        rest = r.rest;
        events = r.events;
        few = says.1;
        goes = p.says;
        may_go_on = may-go-on p.says says.2;
        came_on = r.came_on is;
        represent = record {
          reader = subst (ReaderRepresents command.origin r.given' (read ++ r.put)) (sym same) (r.represents is);
          clear = says.0;
          verbs = stood.verbs_are;
          stages = stood.stages;
          outlet = stood.outlet;
          at_hand = sym (append-nil (chain command.verbs (read ++ r.put))) ∙ ap (λ t. chain command.verbs (read ++ r.put) ++ t) (sym stood.at_hand);
        };
        more = p.more;
        text = p.text;
        leaves = p.leaves;
      }

  goes-passed : (memory : took ≡ turn.NoMemory → ⊥) (now : Serial S) (held held' : Option Held) → (t : ReadTurn) → took ≡ t → ReadSays t command.origin r.given' (read ++ r.put) r.rest → now.reader ≡ after
      → Passed None verb represents command.write command.verbs read r.put now held held' → Outcome (following t) verb represents command given r.given' read (chain command.verbs read) now held held'
  goes-passed memory now held held' turn.Went is says same p = went-passed memory now held held' says is same p
  goes-passed memory now held held' turn.Ended is says same p = absurd (true≢false (sym p.says ∙ chain-closes true command.verbs (read ++ r.put) says.0))
  goes-passed memory now held held' (turn.Failed name) is says same p = record {
    says = (open-result says.1 p.says, says.2, says.3);
    more = p.more;
    text = ap (λ t. out_of command.write (chain command.verbs t)) (all-read says.1) ∙ p.text;
    leaves = p.leaves;
    early = early-so r.early;
  }
  goes-passed memory now held held' turn.TooLong is says same p = record {
    says = (open-result says.1 p.says, says.2);
    more = p.more;
    text = ap (λ t. out_of command.write (chain command.verbs t)) (all-read says.1) ∙ p.text;
    leaves = p.leaves;
    early = early-so r.early;
  }
  goes-passed memory now held held' turn.NoMemory is says same p = absurd (memory is)

  pub none-passed : (took ≡ turn.NoMemory → ⊥) → (now : Serial S) (held held' : Option Held) → now.reader ≡ after
      → Passed None verb represents command.write (chains.verbs_in verb serial.stages) read out' now held held' → Outcome (following took) verb represents command given r.given' read (chain command.verbs read) now held held'
  none-passed memory now held held' same as_passed = goes-passed memory now held held' took refl r.says same (passed-as memory None now held held' as_passed)

  -- no memory was found for the read
  pub unread : (held : Option Held) → CameOver answer.NoMemory command given r.given' (chain command.verbs read) held held
  unread held =
      let more = grows command.verbs read (r.put ++ r.rest) in
      let text = writes command.write (chain command.verbs read) more.0 settled.all.outlet.clear in
      record {
        says = tt;
        more = text.0;
        text = ap (λ t. out_of command.write (chain command.verbs t)) (r.events ∙ append_assoc read r.put r.rest) ∙ ap (out_of command.write) more.1 ∙ text.1;
        leaves = unwritten text.0 held;
        early = early-so r.early;
      }

  -- the read failed
  pub failed : (name : InputName) → took ≡ turn.Failed name → (held : Option Held) → CameOver (answer.Read name) command given r.given' (chain command.verbs read) held held
  failed name is held =
      let says = subst (λ t. ReadSays t command.origin r.given' (read ++ r.put) r.rest) is r.says in
      let all : given_by command.origin r.given' ≡ read = all-read says.1 ∙ ap (λ t. read ++ t) (r.fails name is) ∙ append-nil read in
      record {
        says = (ap (λ t. is_open (chain command.verbs t)) all ∙ settled.all.outlet.clear, says.2, says.3);
        more = [];
        text = ap (λ t. out_of command.write (chain command.verbs t)) all ∙ sym (append-nil (out_of command.write (chain command.verbs read)));
        leaves = ChangesAt-none Stdout (Leaves (answer.Read name) []) with_bytes-none held;
        early = early-so r.early;
      }
