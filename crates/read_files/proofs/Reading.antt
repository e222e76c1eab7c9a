-- A read of the open input, and what the inputs tell of it.
use Rattle.std.proofs.Common.{◌≡◌, ℕ, ◌+◌, ◌<◌, ◌≤◌, ◌^◌, true, false, List, [], ◌∷◌, ◌++◌, length, Option, Some, refl, ap, sym, subst, ◌∙◌, arith, length-append}
use Rattle.std.specs.Prelude.{IsSome, reverse}
use Rattle.std.proofs.lemmas.List.{append-nil}
use Rattle.mlr_event.specs.declared.event.Event.{Event}
use Rattle.mlr_event.specs.declared.names.InputName.{InputName}
use Rattle.mlr_event.specs.declared.options.ReadOpts.{ReadOpts}
use Rattle.mlr_event.specs.Verb.{is_open}
use Rattle.mlr_world.specs.Inputs.{Contents, MeetsEnd, TakesPiece}
use Rattle.mlr_world.specs.Taken.{Take, OpenEntry, ended, entry_of, grown}
use Rattle.read_files.specs.declared.open_file.OpenInput.{OpenInput}
use Rattle.read_files.specs.declared.reader.FileReader.{FileReader}
use Rattle.read_files.specs.declared.reader.ReadTurn.{ReadTurn}
use Rattle.read_files.specs.declared.reader.ReadTurn.TheVariants.{Went, Ended, Failed, TooLong, NoMemory}
use Rattle.read_files.specs.Takes.{After, GoesOn, stops_at, total, with_last, last_place}
use Rattle.read_files.specs.Sources.{events_taken, source}
use Rattle.read_files.specs.Represents.{Represents, Turned, TurnCause}
use Rattle.read_files.specs.Steps.{Stepped, failed}
use Rattle.read_files.proofs.Given.{goes_on-more, stops-following, total-append, with_last-push}
use Rattle.read_files.proofs.Steps.{source-stops, take_of}
use Rattle.read_files.proofs.Taking.{following-ended, following-grown, open-name, open-some}

-- what was read is no other for what is kept of the last piece
pub represents-piece : (opts : ReadOpts) (names : List InputName) (given : List Take) (reader : FileReader) (piece : List ℕ) → Represents opts names given reader → Represents opts names given (record reader { piece = piece })
represents-piece opts names given reader piece s = record {
  order = s.order;
  few = s.few;
  clear = s.clear;
  usable = s.usable;
  opts_are = s.opts_are;
  taken_is = s.taken_is;
  prefix = s.prefix;
  done = s.done;
  read = s.read;
  at_is = s.at_is;
  few_files = s.few_files;
  few_records = s.few_records;
  current = s.current;
}

-- a result that isn't a failure says that no count rose
pub no-failure : (turn : ReadTurn) (before now : InputName → ℕ) → failed turn ≡ false → ((name : InputName) → now name ≡ before name) → TurnCause turn before now
no-failure Went before now none same = same
no-failure Ended before now none same = same
no-failure (Failed name) before now none same = absurd (let e : true ≡ false = none in cc)
no-failure TooLong before now none same = same
no-failure NoMemory before now none same = same

pub goes_on-same : (given : List Take) → GoesOn given given
goes_on-same given = subst (GoesOn given) (append-nil given) (goes_on-more given [])

-- a read that led to more, as the inputs tell it
pub turned-of : (turn : ReadTurn) (opts : ReadOpts) (names : List InputName) (before : Option (List Take)) (given given' : List Take) (reader' : FileReader) (contents : Option Contents) (taken' : Option (List Take)) (name' : Option OpenEntry)
    (out out' : List Event) → Stepped turn opts names given given' reader' out out' → After before given' contents taken' name' → total given' < total given + 65536 → total given' ≤ 2 ^ 60
    → Turned turn opts names before given reader' contents taken' name' out out'
turned-of turn opts names before given given' reader' contents taken' name' out out' step following one few = record {
  given' = given';
  order = step.order;
  goes_on = step.goes_on;
  following = following;
  one_read = one;
  few = few;
  says = step.says;
  more = step.more;
  events = step.events;
  appends = step.appends;
  represents = step.represents;
}

-- a call that took nothing, where an input is still to be read
module _ (opts : ReadOpts) (names : List InputName) (before : Option (List Take)) (given : List Take) (reader reader' : FileReader) (s : Represents opts names given reader) (contents : Option Contents) (taken' : Option (List Take)) (name' : Option OpenEntry)
    (following : After before given contents taken' name') (next : InputName) (stops : stops_at names given ≡ Some next) (out : List Event) where
  source-same : source opts names given ≡ events_taken opts given ++ []
  source-same = source-stops opts names given next stops ∙ sym (append-nil (events_taken opts given))

  pub turned-failed : Turned (Failed next) opts names before given reader' contents taken' name' out out
  turned-failed = record {
    given' = given;
    order = s.order;
    goes_on = goes_on-same given;
    following = following;
    one_read = omega arith;
    few = omega (arith, s.few);
    says = (ap is_open (source-stops opts names given next stops) ∙ s.clear, s.few, stops, source-stops opts names given next stops);
    more = [];
    events = source-same;
    appends = λ _. sym (append-nil out);
    represents = λ e. absurd (let f : Failed next ≡ Went = e in cc);
  }

  pub turned-none : Turned NoMemory opts names before given reader' contents taken' name' out out
  turned-none = record {
    given' = given;
    order = s.order;
    goes_on = goes_on-same given;
    following = following;
    one_read = omega arith;
    few = omega (arith, s.few);
    says = tt;
    more = [];
    events = source-same;
    appends = λ none. absurd (none refl);
    represents = λ e. absurd (let f : NoMemory ≡ Went = e in cc);
  }

-- a read of the open input
module _ (opts : ReadOpts) (names : List InputName) (given : List Take) (reader : FileReader) (input : OpenInput) (s : Represents opts names given (record reader { current = Some input }))
    (before : Option (List Take)) (contents : Option Contents) (taken : Option (List Take)) (name : Option OpenEntry) (following : After before given contents taken name) where
  abbrev take_so : Take
  take_so = take_of input.name false s.current.bytes

  following-so : After before (s.done ++ take_so ∷ []) contents taken name
  following-so = subst (λ g. After before g contents taken name) s.current.given_is following

  pub name-so : name ≡ Some (entry_of input.name (last_place taken))
  name-so = open-name before s.done take_so refl contents taken taken name name following-so

  pub some-so : IsSome name
  some-so = open-some before s.done take_so refl contents taken taken name name following-so

  pub stops-so : stops_at names given ≡ Some input.name
  stops-so =
      ap (λ n. stops_at n given) s.current.names_are ∙ ap (stops_at (s.prefix ++ input.name ∷ reverse reader.names.items)) s.current.given_is
      ∙ stops-following s.prefix (input.name ∷ reverse reader.names.items) s.done (take_so ∷ []) s.read

  with_last-so : (f : Take → Take) → with_last f given ≡ s.done ++ f take_so ∷ []
  with_last-so f = ap (with_last f) s.current.given_is ∙ with_last-push f s.done take_so

  total-given : total given ≡ total s.done + length s.current.bytes
  total-given = omega (arith, ap total s.current.given_is, total-append s.done (take_so ∷ []))

  total-grown : (piece : List ℕ) → total (with_last (grown piece) given) ≡ total given + length piece
  total-grown piece = omega (arith, ap total (with_last-so (grown piece)), total-append s.done (grown piece take_so ∷ []), total-given, length-append s.current.bytes piece)

  total-ended : total (with_last ended given) ≡ total given
  total-ended = omega (arith, ap total (with_last-so ended), total-append s.done (ended take_so ∷ []), total-given)

  module _ (taken' : Option (List Take)) (name' : Option OpenEntry) (same : name' ≡ name) (turn : ReadTurn) (reader' : FileReader) (out out' : List Event) where
    pub turned-piece : {n : ℕ} (max : ℕ) (empty into : List ℕ) → empty ≡ [] → (step : TakesPiece max n name contents taken taken' empty into) → max < 65536 → total given + max ≤ 2 ^ 60 → Stepped turn opts names given (with_last (grown into) given) reader' out out'
        → Turned turn opts names before given reader' contents taken' name' out out'
    turned-piece max empty into none step one few stepped =
        let is : into ≡ step.piece = step.appended ∙ ap (λ i. i ++ step.piece) none in
        turned-of turn opts names before given (with_last (grown into) given) reader' contents taken' name' out out' stepped
        (subst (λ g. After before g contents taken' name') (sym (with_last-so (grown into)))
        (subst (λ p. After before (s.done ++ grown p take_so ∷ []) contents taken' name') (sym is)
        (following-grown before s.done take_so refl contents taken taken' name name' following-so step.piece step.entry step.prefix same)))
        (omega (arith, total-grown into, ap length is, step.count, step.no_more, one))
        (omega (arith, total-grown into, ap length is, step.count, step.no_more, few))

    pub turned-end : (into into' : List ℕ) (step : MeetsEnd name contents taken taken' into into') → Stepped turn opts names given (with_last ended given) reader' out out' → Turned turn opts names before given reader' contents taken' name' out out'
    turned-end into into' step stepped =
        turned-of turn opts names before given (with_last ended given) reader' contents taken' name' out out' stepped
        (subst (λ g. After before g contents taken' name') (sym (with_last-so ended)) (following-ended before s.done take_so refl contents taken taken' name name' following-so step.entry step.all))
        (omega (arith, total-ended)) (omega (arith, total-ended, s.few))
