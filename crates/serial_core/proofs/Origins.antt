-- A turn of a reader of files, and one of the numbers, as a turn of a reader.
use Rattle.std.proofs.Common.{◌≡◌, ℕ, ◌+◌, ◌-◌, ◌≤◌, Bool, true, false, not, ◌||◌, cond, List, [], ◌∷◌, ◌++◌, length, Option, Some, None, refl, ap, sym, ◌∙◌, subst, append_assoc, inl, inr, arith, length-append}
use Rattle.std.specs.Prelude.{◌⊎◌, map}
use Rattle.std.specs.List.{list_any, range_with_len}
use Rattle.std.proofs.lemmas.Bool.{cases_Bool, true≢false}
use Rattle.std.proofs.lemmas.List.{append-nil, nil_from_length}
use Rattle.std.proofs.lemmas.List.Folds.{list_any-append}
use Rattle.mlr_event.specs.declared.event.Ctx.{Ctx}
use Rattle.mlr_event.specs.declared.event.Event.{Event}
use Rattle.mlr_event.specs.declared.event.Event.TheVariants as event
use Rattle.mlr_event.specs.declared.names.InputName.{InputName}
use Rattle.mlr_event.specs.declared.options.ReadOpts.{ReadOpts}
use Rattle.mlr_event.specs.Verb.{is_last, is_list, is_open}
use Rattle.mlr_event.proofs.Ordered.{open-list}
use Rattle.mlr_world.specs.Inputs.{Contents}
use Rattle.mlr_world.specs.Taken.{Take, OpenEntry}
use Rattle.read_files.specs.declared.reader.FileReader.{FileReader}
use Rattle.read_files.specs.declared.reader.ReadTurn.{ReadTurn}
use Rattle.read_files.specs.declared.reader.ReadTurn.TheVariants as turn
use Rattle.read_files.specs.Takes.{After, GoesOn, InOrder, stops_at, total}
use Rattle.read_files.specs.Sources.{ctx_from, events_taken, is_whole, source, zero_context}
use Rattle.read_files.specs.Represents as file
use Rattle.read_files.proofs.Steps.{source-stops}
use Rattle.verbs_seq.specs.declared.seq_spec.SeqSpec.{SeqSpec}
use Rattle.verbs_seq.specs.declared.source.SeqSource.{SeqSource}
use Rattle.verbs_seq.specs.Seq.{IsSoundSeq, seq_all, seq_context, seq_count, seq_event, seq_events}
use Rattle.verbs_seq.specs.Represents.{RepresentsAt}
use Rattle.serial_core.specs.declared.reader.Reader.TheVariants as reader
use Rattle.serial_core.specs.Command.{Origin, files, numbers}
use Rattle.serial_core.specs.Reading.{Counts, Read, ReadSays, ReaderRepresents, TookMore}
use Rattle.serial_core.proofs.Numbers.{events-append}

-- after an end nothing is open
end-open : (xs : List Event) (ctx : Ctx) → is_open (xs ++ event.End ctx ∷ []) ≡ false
end-open xs ctx = ap not (list_any-append is_last xs (event.End ctx ∷ []) ∙ or-true (list_any is_last xs))
  where
    or-true : (b : Bool) → (b || true) ≡ true
    or-true true = refl
    or-true false = refl

pub open-source : (opts : ReadOpts) (names : List InputName) (takes : List Take) → is_open (source opts names takes) ≡ true → source opts names takes ≡ events_taken opts takes
open-source opts names takes opens = elim (cases_Bool (is_whole opts names takes)) [
  | inl whole ↦ absurd (true≢false (sym opens ∙ ap (λ b. is_open (events_taken opts takes ++ cond b (event.End (ctx_from opts zero_context takes) ∷ []) [])) whole ∙ end-open (events_taken opts takes) (ctx_from opts zero_context takes)))
  | inr part ↦ ap (λ b. events_taken opts takes ++ cond b (event.End (ctx_from opts zero_context takes) ∷ []) []) part ∙ append-nil (events_taken opts takes)
]

-- where a list is no longer, nothing follows it
none-following : (xs ys : List Event) → xs ++ ys ≡ xs → ys ≡ []
none-following xs ys same = nil_from_length ys (omega (arith, ap length same, length-append xs ys))

-- after the last input nothing more is taken
abbrev pub SourceAll : Type 0
SourceAll = (names : List InputName) (given longer : List Take) → InOrder names given → InOrder names longer → GoesOn given longer → stops_at names given ≡ None → longer ≡ given

module _ (opts : ReadOpts) (names : List InputName) (before : Option (List Take)) (given : List Take) (read : List Event) (read_is : read ≡ events_taken opts given)
    (took : ReadTurn) (after : FileReader) (contents : Option Contents) (taken' : Option (List Take)) (name' : Option OpenEntry) (out out' : List Event)
    (t : file.Turned took opts names before given after contents taken' name' out out') where
  says-of : (turned : ReadTurn) → took ≡ turned → file.TurnSays turned opts names given t.given'
  says-of turned is = subst (λ turned. file.TurnSays turned opts names given t.given') is t.says

  all-is : read ++ t.more ≡ source opts names t.given'
  all-is = sym (t.events ∙ ap (λ xs. xs ++ t.more) (sym read_is))

  says-as : (turned : ReadTurn) → file.TurnSays turned opts names given t.given' → ReadSays turned (files opts names) t.given' (read ++ t.more) []
  says-as turn.Went says = (ap is_open all-is ∙ says.0, says.1, inl refl)
  says-as turn.Ended says = (ap is_open all-is ∙ says, refl)
  says-as (turn.Failed name) says = (ap is_open all-is ∙ says.0, refl, says.2, says.1)
  says-as turn.TooLong says = (ap is_open all-is ∙ says.0, refl, says.1)
  says-as turn.NoMemory says = tt

  went-open : (turned : ReadTurn) → turned ≡ turn.Went → file.TurnSays turned opts names given t.given' → is_open (source opts names t.given') ≡ true
  went-open turn.Went is says = says.0
  went-open turn.Ended is says = absurd (let f = is in cc)
  went-open (turn.Failed name) is says = says.0
  went-open turn.TooLong is says = says.0
  went-open turn.NoMemory is says = absurd (let f = is in cc)

  -- where no input remains, no more was taken
  early-at : (all : SourceAll) → InOrder names given → (at : Option InputName) → stops_at names given ≡ at → (t.given' ≡ given) ⊎ (source opts names given ≡ read)
  early-at all order None stops = inl (all names given t.given' order t.order t.goes_on stops)
  early-at all order (Some name) stops = inr (source-stops opts names given name stops ∙ sym read_is)

  pub files-read : (all : SourceAll) → InOrder names given → is_list (source opts names t.given') ≡ true → Read took (files opts names) before given read (reader.Files after) contents taken' name' out out'
  files-read all order list = record {
    given' = t.given';
    took = record { order = t.order; goes_on = t.goes_on; following = t.following; one_read = t.one_read; few = t.few };
    put = t.more;
    rest = [];
    events = sym all-is ∙ sym (append-nil (read ++ t.more));
    list = list;
    few = tt;
    appends = t.appends;
    fails = λ name failed. none-following (events_taken opts given) t.more (sym t.events ∙ (says-of (turn.Failed name) failed).3);
    says = says-as took t.says;
    represents = λ went. (t.represents went, all-is ∙ open-source opts names t.given' (went-open took went t.says));
    early = early-at all order (stops_at names given) refl;
    came_on = λ went. (says-of turn.Went went).2;
  }

records-open : (seq : SeqSpec) (places : List ℕ) → is_open (map (seq_event seq) places) ≡ true
records-open seq [] = refl
records-open seq (place ∷ places) = records-open seq places

pub all-list : (seq : SeqSpec) → is_list (seq_all seq) ≡ true
all-list seq = open-list (seq_events seq 0 (seq_count seq)) (event.End (seq_context (seq_count seq)) ∷ []) (records-open seq (range_with_len 0 (seq_count seq))) refl

-- what remains after so many
abbrev pub rest-from : SeqSpec → ℕ → List Event
rest-from seq n = seq_events seq n (seq_count seq - n) ++ event.End (seq_context (seq_count seq)) ∷ []

pub all-from : (seq : SeqSpec) (n : ℕ) → n ≤ seq_count seq → seq_all seq ≡ seq_events seq 0 n ++ rest-from seq n
all-from seq n within =
    ap (λ xs. xs ++ event.End (seq_context (seq_count seq)) ∷ []) (ap (seq_events seq 0) (let e : seq_count seq ≡ n + (seq_count seq - n) = omega (arith, within) in e) ∙ sym (events-append seq n (seq_count seq - n)))
    ∙ append_assoc (seq_events seq 0 n) (seq_events seq n (seq_count seq - n)) (event.End (seq_context (seq_count seq)) ∷ [])

pub goes-on : (takes : List Take) → GoesOn takes takes
goes-on [] = tt
goes-on (take ∷ takes) = ((refl, ([], sym (append-nil take.bytes), λ e. (refl, e))), goes-on takes)

module _ (seq : SeqSpec) (before : Option (List Take)) (given : List Take) (read : List Event) (n : ℕ) (sound : IsSoundSeq seq) (old : SeqSource) (at : RepresentsAt seq n old)
    (read_is : read ≡ seq_events seq 0 n) (given_is : given ≡ []) (after : SeqSource) (contents : Option Contents) (taken : Option (List Take)) (name : Option OpenEntry)
    (following : After before given contents taken name) (out out' : List Event) where
  nothing-took : TookMore (numbers seq) before given given contents taken name
  nothing-took = record {
    order = subst (InOrder []) (sym given_is) tt;
    goes_on = goes-on given;
    following = following;
    one_read = omega arith;
    few = omega (arith, ap total given_is);
  }

  pub numbers-read : (took : ReadTurn) → Counts took seq n after out out' → Read took (numbers seq) before given read (reader.Numbers after) contents taken name out out'
  numbers-read turn.Went c =
      let next = c.next refl in
      let all : read ++ c.put ≡ seq_events seq 0 (n + c.some) = ap (λ xs. xs ++ c.put) read_is ∙ ap (λ xs. seq_events seq 0 n ++ xs) next.0 ∙ events-append seq n c.some in
      record {
        given' = given;
        took = nothing-took;
        put = c.put;
        rest = rest-from seq (n + c.some);
        events = all-from seq (n + c.some) next.2.within ∙ ap (λ xs. xs ++ rest-from seq (n + c.some)) (sym all);
        list = all-list seq;
        few = c.few;
        appends = c.appends;
        fails = λ name failed. absurd (let f = failed in cc);
        says = (ap is_open all ∙ records-open seq (range_with_len 0 (n + c.some)), omega (arith, ap total given_is), inr given_is);
        represents = λ went. (n + c.some, sound, next.2, all, given_is);
        early = inl refl;
        came_on = λ went. next.1;
      }
  numbers-read turn.Ended c =
      let all : read ++ c.put ≡ seq_all seq = ap (λ xs. xs ++ c.put) read_is ∙ c.last refl in
      record {
        given' = given;
        took = nothing-took;
        put = c.put;
        rest = [];
        events = sym all ∙ sym (append-nil (read ++ c.put));
        list = all-list seq;
        few = c.few;
        appends = c.appends;
        fails = λ name failed. absurd (let f = failed in cc);
        says = (ap is_open all ∙ end-open (seq_events seq 0 (seq_count seq)) (seq_context (seq_count seq)), refl);
        represents = λ went. absurd (let f = went in cc);
        early = inl refl;
        came_on = λ went. absurd (let f = went in cc);
      }
  numbers-read (turn.Failed failed) c = absurd (never c.outcome)
    where
      never : (turn.Failed failed ≡ turn.Went) ⊎ ((turn.Failed failed ≡ turn.Ended) ⊎ (turn.Failed failed ≡ turn.NoMemory)) → ⊥
      never (inl is) = let f = is in cc
      never (inr (inl is)) = let f = is in cc
      never (inr (inr is)) = let f = is in cc
  numbers-read turn.TooLong c = absurd (never c.outcome)
    where
      never : (turn.TooLong ≡ turn.Went) ⊎ ((turn.TooLong ≡ turn.Ended) ⊎ (turn.TooLong ≡ turn.NoMemory)) → ⊥
      never (inl is) = let f = is in cc
      never (inr (inl is)) = let f = is in cc
      never (inr (inr is)) = let f = is in cc
  numbers-read turn.NoMemory c = record {
    given' = given;
    took = nothing-took;
    put = [];
    rest = rest-from seq n;
    events = all-from seq n at.within ∙ ap (λ xs. xs ++ rest-from seq n) (sym read_is ∙ sym (append-nil read));
    list = all-list seq;
    few = let e : length {A = Event} [] ≤ 501 = omega arith in e;
    appends = λ memory. absurd (memory refl);
    fails = λ name failed. absurd (let f = failed in cc);
    says = tt;
    represents = λ went. absurd (let f = went in cc);
    early = inl refl;
    came_on = λ went. absurd (let f = went in cc);
  }

-- the numbers leave the inputs as they are
numbers-cause : (took : ReadTurn) (seq : SeqSpec) (n : ℕ) (after : SeqSource) (out out' : List Event) (f : InputName → ℕ) → Counts took seq n after out out' → file.TurnCause took f f
numbers-cause turn.Went seq n after out out' f c = λ name. refl
numbers-cause turn.Ended seq n after out out' f c = λ name. refl
numbers-cause (turn.Failed failed) seq n after out out' f c = absurd (never c.outcome)
  where
    never : (turn.Failed failed ≡ turn.Went) ⊎ ((turn.Failed failed ≡ turn.Ended) ⊎ (turn.Failed failed ≡ turn.NoMemory)) → ⊥
    never (inl is) = let f = is in cc
    never (inr (inl is)) = let f = is in cc
    never (inr (inr is)) = let f = is in cc
numbers-cause turn.TooLong seq n after out out' f c = λ name. refl
numbers-cause turn.NoMemory seq n after out out' f c = λ name. refl

pub origin-cause : (origin : Origin) (given : List Take) (read : List Event) (old : SeqSource) → ReaderRepresents origin given read (reader.Numbers old) → (took : ReadTurn) (after : SeqSource) (out out' : List Event) (f : InputName → ℕ)
    → ((seq : SeqSpec) (n : ℕ) → IsSoundSeq seq → RepresentsAt seq n old → Counts took seq n after out out') → file.TurnCause took f f
origin-cause (files opts names) given read old represents took after out out' f counts = absurd represents
origin-cause (numbers seq) given read old represents took after out out' f counts = numbers-cause took seq represents.0 after out out' f (counts seq represents.0 represents.1 represents.2)
