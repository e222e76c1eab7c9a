-- A read of one left file, as a turn of the reader of all.
use Rattle.std.proofs.Common.{◌≡◌, ◌+◌, ◌<◌, ◌≤◌, ◌^◌, true, List, [], ◌∷◌, ◌++◌, length, Option, Some, None, refl, ap, sym, ◌∙◌, subst, append_assoc, inr, arith}
use Rattle.std.specs.Prelude.{if◌then◌else◌, reverse}
use Rattle.std.specs.Option.{option_and_then}
use Rattle.std.proofs.lemmas.List.{append-nil, length-reverse, map-append}
use Rattle.mlr_event.specs.declared.event.Event.{Event}
use Rattle.mlr_event.specs.declared.fault.Fault.{Fault}
use Rattle.mlr_event.specs.declared.names.InputName.{InputName}
use Rattle.mlr_event.specs.Verb.{is_list, is_open}
use Rattle.mlr_world.specs.Inputs.{Contents}
use Rattle.mlr_world.specs.Taken.{Take, OpenEntry}
use Rattle.read_files.specs.declared.reader.FileReader.{FileReader}
use Rattle.read_files.specs.declared.reader.ReadTurn.{ReadTurn}
use Rattle.read_files.specs.declared.reader.ReadTurn.TheVariants as read
use Rattle.read_files.specs.Takes.{After, GoesOn, InOrder, ends, stops_at, total}
use Rattle.read_files.specs.Sources.{source}
use Rattle.read_files.specs.Represents as files
use Rattle.read_files.specs.Represents.{AllRead}
use Rattle.read_files.proofs.Given.{ends-append, order-following, read-append, stops-following, total-append}
use Rattle.left_files.specs.declared.left_file.LeftFile.{LeftFile}
use Rattle.left_files.specs.declared.open_left.OpenLeft.{OpenLeft}
use Rattle.left_files.specs.declared.reader.LeftReader.{LeftReader}
use Rattle.left_files.specs.declared.reader.LeftTurn.{LeftTurn}
use Rattle.left_files.specs.declared.reader.LeftTurn.TheVariants.{Went, Ended, Faulted, Failed, TooLong, NoMemory}
use Rattle.left_files.specs.Lefts.{at_left, fault_of, faulted, left_state, lefts_of, names_of, reading, then_state, whole}
use Rattle.left_files.specs.Represents.{OpenRepresents, Represents, Says, Turned, left, open_bytes, with_open}
use Rattle.left_files.specs.Steps.{Closed, ClosedBy, Kept}
use Rattle.left_files.proofs.Files.{FileClosed, file-closed, left-order, one-long, open-ends, open-reading, open-stops, open-taken}
use Rattle.left_files.proofs.Following.{and_done, following-all, following-of, goes_on-following, total-on}
use Rattle.left_files.proofs.Open.{open-after, open-ended, open-unended}
use Rattle.left_files.proofs.States.{lefts-following}

module _ (all : List LeftFile) (before : Option (List Take)) (given : List Take) (reader : LeftReader) (input : OpenLeft) (s : Represents all given (with_open input reader)) where
  abbrev file : LeftFile
  file = s.current.file

  abbrev takes : List Take
  takes = s.current.takes

  abbrev rest : List LeftFile
  rest = reverse reader.files.items

  abbrev held : List (List Event)
  held = reader.lefts.items

  abbrev pub done_so : Option (List Take)
  done_so = and_done before s.done

  names-so : names_of all ≡ names_of s.prefix ++ file.name ∷ names_of rest
  names-so = ap names_of s.current.files_are ∙ map-append (λ f. f.name) s.prefix (file ∷ rest)

  pub following-so : (contents : Option Contents) (taken : Option (List Take)) (entry : Option OpenEntry) → After before given contents taken entry → After done_so takes contents taken entry
  following-so contents taken entry following = following-of before s.done contents taken entry takes (subst (λ g. After before g contents taken entry) s.current.given_is following)

  module _ (contents : Option Contents) (taken taken' : Option (List Take)) (entry entry' : Option OpenEntry) (following : After before given contents taken entry) (took : ReadTurn) (now : FileReader) (out' : List Event)
      (t : files.Turned took file.read (file.name ∷ []) done_so takes now contents taken' entry' input.events out') where
    abbrev given-now : List Take
    given-now = s.done ++ t.given'

    state-now : lefts_of all given-now ≡ then_state (whole held) (lefts_of (file ∷ rest) t.given')
    state-now =
        ap (λ fs. lefts_of fs given-now) s.current.files_are ∙ lefts-following s.prefix (file ∷ rest) s.done t.given' s.read
        ∙ ap (λ state. then_state state (lefts_of (file ∷ rest) t.given')) s.kept

    order-now : InOrder (names_of all) given-now
    order-now = subst (λ ns. InOrder ns given-now) (sym names-so) (order-following (names_of s.prefix) (file.name ∷ names_of rest) s.done t.given' s.read (left-order file.name (names_of rest) t.given' t.order))

    turned-so : (turn : LeftTurn) (reader' : LeftReader) → Says turn all given-now → (turn ≡ Went → total given + ends given < total given-now + ends given-now) → (turn ≡ Went → Represents all given-now reader') → Turned turn all before given reader' contents taken' entry'
    turned-so turn reader' says more represents = record {
      given' = given-now;
      order = order-now;
      goes_on = subst (λ g. GoesOn g given-now) (sym s.current.given_is) (goes_on-following s.done takes t.given' t.goes_on);
      following = following-all before s.done contents taken' entry' (names_of s.prefix) s.read takes t.given' taken entry (subst (λ g. After before g contents taken entry) s.current.given_is following) t.following;
      few = omega (arith, open-after (names_of s.prefix) s.done t.given' s.read, t.few);
      one_read = omega (arith, t.one_read, ap total s.current.given_is, total-append s.done takes, total-append s.done t.given');
      says = says;
      more = more;
      represents = represents;
    }

    more-so : total takes + ends takes < total t.given' + ends t.given' → total given + ends given < total given-now + ends given-now
    more-so more =
        omega (arith, more, ap total s.current.given_is, ap ends s.current.given_is, total-append s.done takes, ends-append s.done takes, total-append s.done t.given', ends-append s.done t.given')

    -- few bytes were taken of the open file
    few-so : total t.given' < 2 ^ 60 → open_bytes given-now < 2 ^ 60
    few-so few = omega (arith, open-after (names_of s.prefix) s.done t.given' s.read, few)

    reading-so : is_open (source file.read (file.name ∷ []) t.given') ≡ true → lefts_of all given-now ≡ reading
    reading-so opens = state-now ∙ ap (then_state (whole held)) (open-reading file rest t.given' t.order opens)

    out-so : (took ≡ read.NoMemory → ⊥) → out' ≡ source file.read (file.name ∷ []) t.given'
    out-so memory = t.appends memory ∙ ap (λ e. e ++ t.more) s.current.reads.events_are ∙ sym t.events

    -- the reading continues in this file
    pub went-so : took ≡ read.Went → Turned Went all before given (with_open (record { number = input.number; reader = now; events = out' }) reader) contents taken' entry'
    went-so is =
        let says = subst (λ u. files.TurnSays u file.read (file.name ∷ []) takes t.given') is t.says in
        turned-so Went (with_open (record { number = input.number; reader = now; events = out' }) reader) (reading-so says.0, few-so says.1) (λ went. more-so says.2) (λ went. record {
          order = order-now;
          begun = inr (reading-so says.0);
          usable = s.usable;
          prefix = s.prefix;
          done = s.done;
          read = s.read;
          kept = s.kept;
          current = record {
            file = file;
            takes = t.given';
            files_are = s.current.files_are;
            given_is = refl;
            reads = record {
              number_is = s.current.reads.number_is;
              unended = open-ends file t.given' t.order says.0;
              represents = t.represents is;
              events_are = out-so (λ memory. let e : read.Went ≡ read.NoMemory = sym is ∙ memory in let f = e in cc) ∙ open-taken file t.given' says.0;
            };
          };
        })

    pub went-less : took ≡ read.Went → left (with_open (record { number = input.number; reader = now; events = out' }) reader) < left (with_open input reader)
    went-less is =
        let says = subst (λ u. files.TurnSays u file.read (file.name ∷ []) takes t.given') is t.says in
        let before_is = s.current.reads.represents.taken_is in
        let now_is = (t.represents is).taken_is in
        omega (arith, says.1, says.2, before_is, now_is, open-ends file t.given' t.order says.0, s.current.reads.unended)

    -- it can't be read, is too long, or there is no memory
    pub failed-so : (name : InputName) (reader' : LeftReader) → took ≡ read.Failed name → Turned (Failed name) all before given reader' contents taken' entry'
    failed-so name reader' is =
        let says = subst (λ u. files.TurnSays u file.read (file.name ∷ []) takes t.given') is t.says in
        let stops : stops_at (names_of all) given-now ≡ Some file.name =
        ap (λ ns. stops_at ns given-now) names-so ∙ stops-following (names_of s.prefix) (file.name ∷ names_of rest) s.done t.given' s.read ∙ open-stops file (names_of rest) t.given' t.order says.0 in
        turned-so (Failed name) reader' (reading-so says.0, stops ∙ sym (open-stops file [] t.given' t.order says.0) ∙ says.2, few-so says.1) (λ went. absurd (let e : Failed name ≡ Went = went in cc)) (λ went. absurd (let e : Failed name ≡ Went = went in cc))

    pub long-so : (reader' : LeftReader) → took ≡ read.TooLong → Turned TooLong all before given reader' contents taken' entry'
    long-so reader' is =
        let says = subst (λ u. files.TurnSays u file.read (file.name ∷ []) takes t.given') is t.says in
        let long = one-long file t.given' t.order says.1 in
        turned-so TooLong reader' (reading-so says.0, ap (λ ts. open_bytes (s.done ++ ts)) long.1 ∙ open-unended s.done long.0 (sym (ap ends long.1) ∙ open-ends file t.given' t.order says.0) ∙ long.2) (λ went. absurd (let e : TooLong ≡ Went = went in cc)) (λ went. absurd (let e : TooLong ≡ Went = went in cc))

    pub none-so : (reader' : LeftReader) → Turned NoMemory all before given reader' contents taken' entry'
    none-so reader' = turned-so NoMemory reader' tt (λ went. absurd (let e : NoMemory ≡ Went = went in cc)) (λ went. absurd (let e : NoMemory ≡ Went = went in cc))

    -- it was closed
    module _ (is : took ≡ read.Ended) (list : is_list (source file.read (file.name ∷ []) t.given') ≡ true) (reader' : LeftReader) where
      fault-now : (fault : Fault) (take : Take) → t.given' ≡ take ∷ [] → left_state file take ≡ faulted (at_left file.number fault) → lefts_of all given-now ≡ faulted (at_left input.number fault)
      fault-now fault take takes_are state =
          state-now ∙ ap (λ ts. then_state (whole held) (lefts_of (file ∷ rest) ts)) takes_are ∙ ap (λ st. then_state (whole held) (then_state st (lefts_of rest []))) state
          ∙ ap (λ n. faulted (at_left n fault)) (sym s.current.reads.number_is)

      faulted-so : (turn : LeftTurn) (fault : Fault) (take : Take) → t.given' ≡ take ∷ [] → left_state file take ≡ faulted (at_left file.number fault) → turn ≡ Faulted (at_left input.number fault) → Turned turn all before given reader' contents taken' entry'
      faulted-so turn fault take takes_are state turned =
          subst (λ u. Turned u all before given reader' contents taken' entry') (sym turned)
          (turned-so (Faulted (at_left input.number fault)) reader' (fault-now fault take takes_are state) (λ went. absurd (let e : Faulted (at_left input.number fault) ≡ Went = went in cc)) (λ went. absurd (let e : Faulted (at_left input.number fault) ≡ Went = went in cc)))

      module _ (events : List Event) (take : Take) (takes_are : t.given' ≡ take ∷ []) (same : take.name ≡ file.name) (ended : take.ended ≡ true) (state : left_state file take ≡ whole (events ∷ [])) where
        abbrev prefix-now : List LeftFile
        prefix-now = s.prefix ++ file ∷ []

        read-now : AllRead (names_of prefix-now) given-now
        read-now =
            subst (λ ns. AllRead ns given-now) (sym (map-append (λ f. f.name) s.prefix (file ∷ [])))
            (subst (λ ts. AllRead (names_of s.prefix ++ file.name ∷ []) (s.done ++ ts)) (sym takes_are) (read-append (names_of s.prefix) (file.name ∷ []) s.done (take ∷ []) s.read (same, ended, tt)))

        kept-now : lefts_of prefix-now given-now ≡ whole (held ++ events ∷ [])
        kept-now =
            lefts-following s.prefix (file ∷ []) s.done t.given' s.read ∙ ap (λ st. then_state st (lefts_of (file ∷ []) t.given')) s.kept
            ∙ ap (λ ts. then_state (whole held) (lefts_of (file ∷ []) ts)) takes_are ∙ ap (λ st. then_state (whole held) (then_state st (whole []))) state

        files-now : all ≡ prefix-now ++ rest
        files-now = s.current.files_are ∙ sym (append_assoc s.prefix (file ∷ []) rest)

        -- files that weren't begun
        left-reading : (more : List LeftFile) → 1 ≤ length more → lefts_of (prefix-now ++ more) (given-now ++ []) ≡ reading
        left-reading more some = lefts-following prefix-now more given-now [] read-now ∙ ap (λ st. then_state st (lefts_of more [])) kept-now ∙ nothing more some
          where
            nothing : (more : List LeftFile) → 1 ≤ length more → then_state (whole (held ++ events ∷ [])) (lefts_of more []) ≡ reading
            nothing [] some = absurd (omega (arith, some))
            nothing (next ∷ more) some = refl

        reading-now : 1 ≤ length reader.files.items → lefts_of all given-now ≡ reading
        reading-now some =
            ap (λ fs. lefts_of fs given-now) files-now ∙ ap (lefts_of (prefix-now ++ rest)) (sym (append-nil given-now)) ∙ left-reading rest (omega (arith, some, length-reverse reader.files.items))

        none-open : open_bytes given-now < 2 ^ 60
        none-open = omega (arith, ap (λ ts. open_bytes (s.done ++ ts)) takes_are, open-ended s.done take ended)

        more-now : total takes + ends takes < total t.given' + ends t.given'
        more-now =
            let one : ends t.given' ≡ 1 = ap ends takes_are ∙ ap (λ b. (if b then 1 else 0) + 0) ended in
            omega (arith, one, s.current.reads.unended, total-on takes t.given' t.goes_on)

        pub kept-so : (turn : LeftTurn) → Kept turn events reader reader' → Turned turn all before given reader' contents taken' entry'
        kept-so Went kept = turned-so Went reader' (reading-now kept.0, none-open) (λ went. more-so more-now) (λ went. record {
          order = order-now;
          begun = inr (reading-now kept.0);
          usable = s.usable;
          prefix = prefix-now;
          done = given-now;
          read = read-now;
          kept = kept-now ∙ ap whole (sym kept.3);
          current = subst (λ o. OpenRepresents o prefix-now (reverse reader'.files.items) given-now all given-now) (sym kept.2)
              (record { files_are = files-now ∙ ap (λ fs. prefix-now ++ reverse fs.items) (sym kept.1); given_is = refl });
        })
        kept-so (Ended lefts) kept =
            turned-so (Ended lefts) reader'
            (ap (λ fs. lefts_of fs given-now) (files-now ∙ ap (λ fs. prefix-now ++ reverse fs) kept.0 ∙ append-nil prefix-now) ∙ kept-now ∙ ap whole (sym kept.1)) (λ went. absurd (let e : Ended lefts ≡ Went = went in cc)) (λ went. absurd (let e : Ended lefts ≡ Went = went in cc))
        kept-so (Faulted fault) kept = absurd kept
        kept-so (Failed name) kept = absurd kept
        kept-so TooLong kept = absurd kept
        kept-so NoMemory kept = none-so reader'

      by-so : (turn : LeftTurn) (events : List Event) (found : Option Fault) → FileClosed file t.given' events found → ClosedBy found turn input.number events reader reader' → Turned turn all before given reader' contents taken' entry'
      by-so turn events (Some fault) closed by = faulted-so turn fault closed.take closed.takes_are closed.by by
      by-so turn events None closed by = kept-so events closed.take closed.takes_are closed.same closed.by.0 closed.by.1 turn by

      pub ended-so : (turn : LeftTurn) → Closed turn input.number out' reader reader' → Turned turn all before given reader' contents taken' entry'
      ended-so turn c =
          let out_is = out-so (λ memory. let e : read.Ended ≡ read.NoMemory = sym is ∙ memory in let f = e in cc) in
          let says = subst (λ u. files.TurnSays u file.read (file.name ∷ []) takes t.given') is t.says in
          by-so turn c.before (option_and_then fault_of c.last) (file-closed file t.given' t.order says c.before c.last c.none (sym out_is ∙ c.events_are) list) c.by
