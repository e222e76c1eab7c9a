-- The next input is opened, or there is none.
use Rattle.std.proofs.Common.{◌≡◌, false, List, [], ◌∷◌, ◌++◌, length, Option, Some, None, refl, ap, sym, subst, ◌∙◌, arith, length-append}
use Rattle.std.specs.Prelude.{reverse}
use Rattle.std.specs.List.{list_any}
use Rattle.std.specs.declared.vec.Vec.{Vec}
use Rattle.std.specs.declared.alloc.Global.{Global}
use Rattle.std.proofs.lemmas.List.{append-nil, reverse-append}
use Rattle.mlr_event.specs.declared.event.Event.{Event}
use Rattle.mlr_event.specs.declared.event.Event.TheVariants.{End}
use Rattle.mlr_event.specs.declared.names.InputName.{InputName}
use Rattle.mlr_event.specs.declared.options.ReadOpts.{ReadOpts}
use Rattle.mlr_event.specs.Verb.{is_fault, is_open}
use Rattle.mlr_world.specs.Inputs.{Contents}
use Rattle.mlr_world.specs.Taken.{Take, OpenEntry, begun}
use Rattle.read_files.specs.declared.reader.FileReader.{FileReader}
use Rattle.read_files.specs.declared.reader.ReadTurn.{ReadTurn}
use Rattle.read_files.specs.declared.reader.ReadTurn.TheVariants.{Went, Ended, Failed, TooLong, NoMemory}
use Rattle.read_files.specs.Takes.{After, InOrder, stops_at, total}
use Rattle.read_files.specs.Sources.{ctx_from, events_taken, source, zero_context}
use Rattle.read_files.specs.Represents.{AllRead, NoneRepresents, OpenRepresents, Represents, Turned, TurnSays, open_count}
use Rattle.read_files.specs.Steps.{AppendsEnd, RepresentsNext}
use Rattle.read_files.proofs.Beginning.{begun-events}
use Rattle.read_files.proofs.Events.{end-closed, open-clear}
use Rattle.read_files.proofs.Given.{ends-append, goes_on-before, goes_on-more, order-following, stops-following, total-append}
use Rattle.read_files.proofs.Reading.{goes_on-same}
use Rattle.read_files.proofs.Steps.{source-stops, source-whole}

-- what a turn says of what was taken, where an input was opened before it
pub says-opened : (turn : ReadTurn) (opts : ReadOpts) (names : List InputName) (given given' : List Take) (name : InputName) → TurnSays turn opts names (given ++ begun name ∷ []) given' → TurnSays turn opts names given given'
says-opened Went opts names given given' name says = (says.0, says.1, omega (arith, says.2, total-append given (begun name ∷ []), ends-append given (begun name ∷ [])))
says-opened Ended opts names given given' name says = says
says-opened (Failed failed) opts names given given' name says = (says.0, says.1, says.2, says.3 ∙ begun-events opts given name)
says-opened TooLong opts names given given' name says = says
says-opened NoMemory opts names given given' name says = tt

pub turned-opened : (turn : ReadTurn) (opts : ReadOpts) (names : List InputName) (before : Option (List Take)) (given : List Take) (opened : InputName) (reader' : FileReader) (contents contents' : Option Contents) (taken' : Option (List Take)) (name' : Option OpenEntry)
    (out out' : List Event) → contents' ≡ contents → Turned turn opts names before (given ++ begun opened ∷ []) reader' contents' taken' name' out out' → Turned turn opts names before given reader' contents taken' name' out out'
turned-opened turn opts names before given opened reader' contents contents' taken' name' out out' same turned = record {
  given' = turned.given';
  order = turned.order;
  goes_on = goes_on-before given (begun opened ∷ []) turned.given' turned.goes_on;
  following = subst (λ c. After before turned.given' c taken' name') same turned.following;
  one_read = omega (arith, turned.one_read, total-append given (begun opened ∷ []));
  few = turned.few;
  says = says-opened turn opts names given turned.given' opened turned.says;
  more = turned.more;
  events = turned.events ∙ ap (λ e. e ++ turned.more) (begun-events opts given opened);
  appends = turned.appends;
  represents = turned.represents;
}

-- it was opened, and there was no memory for its reader
pub turned-opened-none : (opts : ReadOpts) (names : List InputName) (before : Option (List Take)) (given : List Take) (reader reader' : FileReader) (s : Represents opts names given reader) (contents contents' : Option Contents) (taken' : Option (List Take)) (name' : Option OpenEntry)
    (opened : InputName) → contents' ≡ contents → After before (given ++ begun opened ∷ []) contents' taken' name' → InOrder names (given ++ begun opened ∷ []) → stops_at names (given ++ begun opened ∷ []) ≡ Some opened → (out : List Event)
    → Turned NoMemory opts names before given reader' contents taken' name' out out
turned-opened-none opts names before given reader reader' s contents contents' taken' name' opened same following order stops out = record {
  given' = given ++ begun opened ∷ [];
  order = order;
  goes_on = goes_on-more given (begun opened ∷ []);
  following = subst (λ c. After before (given ++ begun opened ∷ []) c taken' name') same following;
  one_read = omega (arith, total-append given (begun opened ∷ []));
  few = omega (arith, s.few, total-append given (begun opened ∷ []));
  says = tt;
  more = [];
  events = source-stops opts names (given ++ begun opened ∷ []) opened stops ∙ begun-events opts given opened ∙ sym (append-nil (events_taken opts given));
  appends = λ none. absurd (none refl);
  represents = λ e. absurd (let f : NoMemory ≡ Went = e in cc);
}

-- where no input is open
module _ (opts : ReadOpts) (names : List InputName) (given : List Take) (reader : FileReader) (s : Represents opts names given reader) (closed : reader.current ≡ None) where
  none : NoneRepresents s.prefix (reverse reader.names.items) s.done names given
  none = subst (λ o. OpenRepresents o opts s.prefix (reverse reader.names.items) s.done names given) closed s.current

  pub read-so : AllRead s.prefix given
  read-so = subst (AllRead s.prefix) (sym none.given_is) s.read

  names-next : (name : InputName) (left : Vec InputName Global) → reader.names.items ≡ left.items ++ name ∷ [] → names ≡ s.prefix ++ name ∷ reverse left.items
  names-next name left popped = none.names_are ∙ ap (λ l. s.prefix ++ reverse l) popped ∙ ap (λ l. s.prefix ++ l) (reverse-append left.items (name ∷ []))

  pub next-represents : (name : InputName) (left : Vec InputName Global) → reader.names.items ≡ left.items ++ name ∷ [] → RepresentsNext opts names given name (record reader { names = left })
  next-represents name left popped = record {
    few = s.few;
    clear = s.clear;
    usable = s.usable;
    opts_are = s.opts_are;
    taken_is = s.taken_is;
    prefix = s.prefix;
    read = read-so;
    at_is = s.at_is ∙ ap (ctx_from opts zero_context) (sym none.given_is);
    few_files = omega (arith, s.few_files, ap open_count closed, ap length popped, length-append left.items (name ∷ []));
    few_records = omega (arith, s.few_records, ap total none.given_is);
    names_are = names-next name left popped;
  }

  pub stops-next : (name : InputName) (left : Vec InputName Global) → reader.names.items ≡ left.items ++ name ∷ [] → stops_at names given ≡ Some name
  stops-next name left popped =
      ap (λ n. stops_at n given) (names-next name left popped) ∙ ap (stops_at (s.prefix ++ name ∷ reverse left.items)) (sym (append-nil given)) ∙ stops-following s.prefix (name ∷ reverse left.items) given [] read-so

  pub order-opened : (name : InputName) (left : Vec InputName Global) → reader.names.items ≡ left.items ++ name ∷ [] → InOrder names (given ++ begun name ∷ [])
  order-opened name left popped =
      subst (λ n. InOrder n (given ++ begun name ∷ [])) (sym (names-next name left popped)) (order-following s.prefix (name ∷ reverse left.items) given (begun name ∷ []) read-so refl)

  pub stops-opened : (name : InputName) (left : Vec InputName Global) → reader.names.items ≡ left.items ++ name ∷ [] → stops_at names (given ++ begun name ∷ []) ≡ Some name
  stops-opened name left popped =
      ap (λ n. stops_at n (given ++ begun name ∷ [])) (names-next name left popped) ∙ stops-following s.prefix (name ∷ reverse left.items) given (begun name ∷ []) read-so

  -- and there is no other
  module _ (before : Option (List Take)) (contents : Option Contents) (taken : Option (List Take)) (name : Option OpenEntry) (following : After before given contents taken name) (last : reader.names.items ≡ []) (reader' : FileReader) (out out' : List Event) where
    stops-none : stops_at names given ≡ None
    stops-none =
        ap (λ n. stops_at n given) (none.names_are ∙ ap (λ l. s.prefix ++ reverse l) last) ∙ ap (stops_at (s.prefix ++ [])) (sym (append-nil given)) ∙ stops-following s.prefix [] given [] read-so

    clear-so : list_any is_fault (events_taken opts given) ≡ false
    clear-so = open-clear (events_taken opts given) s.clear

    at-so : reader.at ≡ ctx_from opts zero_context given
    at-so = s.at_is ∙ ap (ctx_from opts zero_context) (sym none.given_is)

    source-so : source opts names given ≡ events_taken opts given ++ End reader.at ∷ []
    source-so = source-whole opts names given stops-none clear-so ∙ ap (λ c. events_taken opts given ++ End c ∷ []) (sym at-so)

    pub turned-all : (turn : ReadTurn) → AppendsEnd turn reader.at out out' → Turned turn opts names before given reader' contents taken name out out'
    turned-all Went appends = absurd appends
    turned-all Ended appends = record {
      given' = given;
      order = s.order;
      goes_on = goes_on-same given;
      following = following;
      one_read = omega arith;
      few = omega (arith, s.few);
      says = ap is_open source-so ∙ end-closed (events_taken opts given) (End reader.at) refl;
      more = End reader.at ∷ [];
      events = source-so;
      appends = λ _. appends;
      represents = λ e. absurd (let f : Ended ≡ Went = e in cc);
    }
    turned-all (Failed failed) appends = absurd appends
    turned-all TooLong appends = absurd appends
    turned-all NoMemory appends = record {
      given' = given;
      order = s.order;
      goes_on = goes_on-same given;
      following = following;
      one_read = omega arith;
      few = omega (arith, s.few);
      says = tt;
      more = End reader.at ∷ [];
      events = source-so;
      appends = λ none. absurd (none refl);
      represents = λ e. absurd (let f : NoMemory ≡ Went = e in cc);
    }
