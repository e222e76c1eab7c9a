-- What a read of the open input leads to.
use Rattle.std.proofs.Common.{◌≡◌, ℕ, ◌+◌, Bool, true, false, not, ◌&&◌, ◌||◌, List, [], ◌∷◌, ◌++◌, length, Some, None, refl, ap, ap₂, sym, ◌∙◌, append_assoc, arith}
use Rattle.std.specs.Prelude.{if◌then◌else◌, is_some}
use Rattle.std.specs.List.{list_any}
use Rattle.std.proofs.lemmas.Bool.{false≢true}
use Rattle.std.proofs.lemmas.List.{append-nil}
use Rattle.std.proofs.lemmas.List.Folds.{list_any-append}
use Rattle.mlr_event.specs.declared.event.Ctx.{Ctx}
use Rattle.mlr_event.specs.declared.event.Event.{Event}
use Rattle.mlr_event.specs.declared.event.Event.TheVariants.{End}
use Rattle.mlr_event.specs.declared.names.InputName.{InputName}
use Rattle.mlr_event.specs.declared.options.ReadOpts.{ReadOpts}
use Rattle.mlr_event.specs.Verb.{is_fault, is_open, is_part}
use Rattle.mlr_world.specs.Taken.{Take, ended, grown}
use Rattle.read_files.specs.Takes.{GoesOn, InOrder, stops_at, total, with_last}
use Rattle.read_files.specs.Sources.{Source, ctx_after_events, ctx_from, events_from, events_taken, gives_as, source, until_fault, zero_context}
use Rattle.read_files.specs.Represents.{AllRead, source_after}
use Rattle.read_files.proofs.Events.{clear-open, end-closed, fault-closed, part-rest, part-until, until-following, until-clear, until-no_end, until-open}
use Rattle.read_files.proofs.Formats.{gives-filenum, gives-part}
use Rattle.read_files.proofs.Given.{ctx-append, events-append, goes_on-last, order-following, stops-following, total-append, with_last-push}
use Rattle.read_files.proofs.Growing.{inputs-no_end}

-- what inputs give that stop at one of them, and what they give whole
and-false : (b : Bool) → (b && false) ≡ false
and-false true = refl
and-false false = refl

pub source-stops : (opts : ReadOpts) (names : List InputName) (given : List Take) (name : InputName) → stops_at names given ≡ Some name → source opts names given ≡ events_taken opts given
source-stops opts names given name stops =
    ap (λ s. events_taken opts given ++ (if not (is_some s) && not (list_any is_fault (events_taken opts given)) then End (ctx_from opts zero_context given) ∷ [] else [])) stops
    ∙ append-nil (events_taken opts given)

pub source-faulty : (opts : ReadOpts) (names : List InputName) (given : List Take) → list_any is_fault (events_taken opts given) ≡ true → source opts names given ≡ events_taken opts given
source-faulty opts names given some =
    ap (λ f. events_taken opts given ++ (if not (is_some (stops_at names given)) && not f then End (ctx_from opts zero_context given) ∷ [] else [])) some
    ∙ ap (λ w. events_taken opts given ++ (if w then End (ctx_from opts zero_context given) ∷ [] else [])) (and-false (not (is_some (stops_at names given))))
    ∙ append-nil (events_taken opts given)

pub source-whole : (opts : ReadOpts) (names : List InputName) (given : List Take) → stops_at names given ≡ None → list_any is_fault (events_taken opts given) ≡ false
    → source opts names given ≡ events_taken opts given ++ End (ctx_from opts zero_context given) ∷ []
source-whole opts names given stops none =
    ap₂ (λ s f. events_taken opts given ++ (if not (is_some s) && not f then End (ctx_from opts zero_context given) ∷ [] else [])) stops none

pub taken-open : (opts : ReadOpts) (given : List Take) → list_any is_fault (events_taken opts given) ≡ false → is_open (events_taken opts given) ≡ true
taken-open opts given none = clear-open (events_taken opts given) (until-no_end (events_from opts zero_context given) (inputs-no_end opts zero_context given)) none

-- what was taken of an input, after those that were read whole
abbrev pub take_of : InputName → Bool → List ℕ → Take
take_of name all bytes = record { name = name; bytes = bytes; ended = all }

abbrev pub given_to : List Take → InputName → Bool → List ℕ → List Take
given_to done name all bytes = done ++ take_of name all bytes ∷ []

-- an open input, after those that were read whole
module _ (opts : ReadOpts) (prefix rest : List InputName) (done : List Take) (read : AllRead prefix done) (name : InputName) (bytes : List ℕ) where
  abbrev names_of : List InputName
  names_of = prefix ++ name ∷ rest

  abbrev src : Source
  src = source_after opts (ctx_from opts zero_context done)

  abbrev gives_now : Bool → List ℕ → List Event
  gives_now all b = gives_as opts.format src all b

  abbrev before : List Event
  before = events_from opts zero_context done

  events-are : (all : Bool) (b : List ℕ) → events_from opts zero_context (given_to done name all b) ≡ before ++ gives_now all b
  events-are all b = events-append opts zero_context done (take_of name all b ∷ []) ∙ ap (λ e. before ++ e) (append-nil (gives_now all b))

  pub order-now : (all : Bool) (b : List ℕ) → InOrder names_of (given_to done name all b)
  order-now all b = order-following prefix (name ∷ rest) done (take_of name all b ∷ []) read refl

  pub stops-open : (b : List ℕ) → stops_at names_of (given_to done name false b) ≡ Some name
  stops-open b = stops-following prefix (name ∷ rest) done (take_of name false b ∷ []) read

  pub stops-ended : (b : List ℕ) → stops_at names_of (given_to done name true b) ≡ stops_at rest []
  stops-ended b = stops-following prefix (name ∷ rest) done (take_of name true b ∷ []) read

  pub ctx-ended : (b : List ℕ) → ctx_from opts zero_context (given_to done name true b) ≡ ctx_after_events src.ctx (gives_now true b)
  ctx-ended b = ctx-append opts zero_context done (take_of name true b ∷ [])

  pub filenum-ended : (b : List ℕ) → (ctx_from opts zero_context (given_to done name true b)).filenum ≡ (ctx_from opts zero_context done).filenum + 1
  filenum-ended b = ap (λ c. c.filenum) (ctx-ended b) ∙ gives-filenum opts.format src true b

  pub total-now : (all : Bool) (b : List ℕ) → total (given_to done name all b) ≡ total done + length b
  total-now all b = omega (arith, total-append done (take_of name all b ∷ []))

  pub grown-now : (piece : List ℕ) → with_last (grown piece) (given_to done name false bytes) ≡ given_to done name false (bytes ++ piece)
  grown-now piece = with_last-push (grown piece) done (take_of name false bytes)

  pub ended-now : with_last ended (given_to done name false bytes) ≡ given_to done name true bytes
  ended-now = with_last-push ended done (take_of name false bytes)

  pub goes_on-grown : (piece : List ℕ) → GoesOn (given_to done name false bytes) (given_to done name false (bytes ++ piece))
  goes_on-grown piece = goes_on-last done (take_of name false bytes) (take_of name false (bytes ++ piece)) (refl, (piece, refl, λ e. absurd (false≢true e)))

  pub goes_on-ended : GoesOn (given_to done name false bytes) (given_to done name true bytes)
  goes_on-ended = goes_on-last done (take_of name false bytes) (take_of name true bytes) (refl, ([], sym (append-nil bytes), λ e. absurd (false≢true e)))

  -- what was pushed was no fault, and what is given now is appended
  module _ (clear : is_open (events_taken opts (given_to done name false bytes)) ≡ true) (all : Bool) (b : List ℕ) (more : List Event) (now_is : gives_now all b ≡ gives_now false bytes ++ more) where
    abbrev known : List Event
    known = before ++ gives_now false bytes

    known-clear : list_any is_fault known ≡ false
    known-clear = ap (list_any is_fault) (sym (events-are false bytes)) ∙ until-open (events_from opts zero_context (given_to done name false bytes)) clear

    known-taken : events_taken opts (given_to done name false bytes) ≡ known
    known-taken = ap until_fault (events-are false bytes) ∙ until-clear known known-clear

    pub more-part : is_part more ≡ true
    more-part = part-rest (gives_now false bytes) more (ap is_part (sym now_is) ∙ gives-part opts.format src all b)

    pub taken-more : events_taken opts (given_to done name all b) ≡ events_taken opts (given_to done name false bytes) ++ more
    taken-more =
        ap until_fault (events-are all b ∙ ap (λ e. before ++ e) now_is ∙ sym (append_assoc before (gives_now false bytes) more))
        ∙ until-following known more known-clear
        ∙ ap₂ (λ k m. k ++ m) (sym known-taken) (part-until more more-part)

    pub fault-now : list_any is_fault (events_taken opts (given_to done name all b)) ≡ list_any is_fault more
    fault-now =
        ap (list_any is_fault) taken-more
        ∙ list_any-append is_fault (events_taken opts (given_to done name false bytes)) more
        ∙ ap (λ f. f || list_any is_fault more) (ap (list_any is_fault) known-taken ∙ known-clear)

    -- a fault
    pub faulty-source : list_any is_fault more ≡ true → source opts names_of (given_to done name all b) ≡ events_taken opts (given_to done name false bytes) ++ more
    faulty-source some = source-faulty opts names_of (given_to done name all b) (fault-now ∙ some) ∙ taken-more

    pub faulty-closed : list_any is_fault more ≡ true → is_open (source opts names_of (given_to done name all b)) ≡ false
    faulty-closed some = ap is_open (source-faulty opts names_of (given_to done name all b) (fault-now ∙ some)) ∙ fault-closed (events_taken opts (given_to done name all b)) (fault-now ∙ some)

    -- none
    pub clear-now : list_any is_fault more ≡ false → is_open (events_taken opts (given_to done name all b)) ≡ true
    clear-now none = taken-open opts (given_to done name all b) (fault-now ∙ none)

    -- and an input that isn't read whole
    module _ (next : InputName) (stops : stops_at names_of (given_to done name all b) ≡ Some next) where
      pub stopped-source : source opts names_of (given_to done name all b) ≡ events_taken opts (given_to done name false bytes) ++ more
      stopped-source = source-stops opts names_of (given_to done name all b) next stops ∙ taken-more

      pub stopped-open : list_any is_fault more ≡ false → is_open (source opts names_of (given_to done name all b)) ≡ true
      stopped-open none = ap is_open (source-stops opts names_of (given_to done name all b) next stops) ∙ clear-now none

    -- and no input more
    module _ (stops : stops_at names_of (given_to done name all b) ≡ None) (none : list_any is_fault more ≡ false) (at : Ctx) (at_is : at ≡ ctx_from opts zero_context (given_to done name all b)) where
      pub whole-source : source opts names_of (given_to done name all b) ≡ events_taken opts (given_to done name false bytes) ++ (more ++ End at ∷ [])
      whole-source =
          source-whole opts names_of (given_to done name all b) stops (fault-now ∙ none)
          ∙ ap₂ (λ e c. e ++ End c ∷ []) taken-more (sym at_is)
          ∙ append_assoc (events_taken opts (given_to done name false bytes)) more (End at ∷ [])

      pub whole-closed : is_open (source opts names_of (given_to done name all b)) ≡ false
      whole-closed = ap is_open (source-whole opts names_of (given_to done name all b) stops (fault-now ∙ none)) ∙ end-closed (events_taken opts (given_to done name all b)) (End (ctx_from opts zero_context (given_to done name all b))) refl
