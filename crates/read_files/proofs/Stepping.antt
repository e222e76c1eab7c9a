-- What a read of the open input leads to, by the reader that it leaves.
use Rattle.std.proofs.Common.{◌≡◌, ℕ, ◌+◌, ◌<◌, ◌≤◌, ◌^◌, Bool, true, false, List, [], ◌∷◌, ◌++◌, length, Option, Some, None, refl, ap, sym, subst, ◌∙◌, append_assoc, arith, inl, inr}
use Rattle.std.specs.Prelude.{reverse}
use Rattle.std.specs.List.{list_any}
use Rattle.std.proofs.lemmas.Bool.{cases_lt}
use Rattle.std.proofs.lemmas.List.{length-append, length-reverse}
use Rattle.mlr_event.specs.Adding.{Adds}
use Rattle.mlr_event.specs.declared.event.Ctx.{Ctx}
use Rattle.mlr_event.specs.declared.event.Event.{Event}
use Rattle.mlr_event.specs.declared.event.Event.TheVariants.{End}
use Rattle.mlr_event.specs.declared.names.InputName.{InputName}
use Rattle.mlr_event.specs.declared.options.ReadOpts.{ReadOpts}
use Rattle.mlr_event.specs.Verb.{is_fault, is_open, is_part}
use Rattle.mlr_world.specs.Taken.{Take, ended, grown}
use Rattle.read_files.specs.declared.open_file.OpenFile.{OpenFile}
use Rattle.read_files.specs.declared.open_file.OpenInput.{OpenInput}
use Rattle.read_files.specs.declared.reader.FileReader.{FileReader}
use Rattle.read_files.specs.declared.reader.ReadTurn.{ReadTurn}
use Rattle.read_files.specs.declared.reader.ReadTurn.TheVariants.{Went, Ended, Failed, TooLong, NoMemory}
use Rattle.read_files.specs.Takes.{GoesOn, InOrder, stops_at, total, with_last}
use Rattle.read_files.specs.Readers.{FileRepresents, counted}
use Rattle.read_files.specs.Sources.{Source, ctx_after_events, ctx_from, events_taken, gives_as, source, zero_context}
use Rattle.read_files.specs.Represents.{Represents, source_after}
use Rattle.read_files.specs.Steps.{Closes, Stepped, WentTo}
use Rattle.read_files.proofs.Formats.{gives-part}
use Rattle.read_files.proofs.Given.{ends-append, read-append}
use Rattle.read_files.proofs.Steps as steps
use Rattle.read_files.proofs.Steps.{given_to, take_of}

abbrev pub SourceGrows : Type 0
SourceGrows = (opts : ReadOpts) (names : List InputName) (given longer : List Take) → InOrder names given → GoesOn given longer → (more : List Event) × (source opts names longer ≡ events_taken opts given ++ more)

-- the remaining inputs
stops-some : (names : List InputName) → 1 ≤ length names → (next : InputName) × (stops_at names [] ≡ Some next)
stops-some [] some = absurd (omega (arith, some))
stops-some (name ∷ names) some = (name, refl)

-- all but one number up to 2^60 are less
less-or : (n : ℕ) → n ≤ 2 ^ 60 → (n ≡ 2 ^ 60 → ⊥) → n < 2 ^ 60
less-or n few other = elim (cases_lt n (2 ^ 60)) [ inl less ↦ less | inr more ↦ absurd (other (omega (arith, few, more))) ]

-- the reader whose open input is known
pub in-place : (opts : ReadOpts) (names : List InputName) (given : List Take) (reader : FileReader) (input : OpenInput) → reader.current ≡ Some input → Represents opts names given reader → Represents opts names given (record reader { current = Some input })
in-place opts names given reader input is s = subst (λ o. Represents opts names given (record reader { current = o })) is s

module _ (opts : ReadOpts) (names : List InputName) (given : List Take) (reader : FileReader) (input : OpenInput) (s : Represents opts names given (record reader { current = Some input })) where
  abbrev pub bytes_so : List ℕ
  bytes_so = s.current.bytes

  abbrev pub source_so : Source
  source_so = source_after opts (ctx_from opts zero_context s.done)

  abbrev pub gives_so : Bool → List ℕ → List Event
  gives_so all b = gives_as opts.format source_so all b

  abbrev pub now_taken : Bool → List ℕ → List Take
  now_taken all b = given_to s.done input.name all b

  abbrev rest : List InputName
  rest = reverse reader.names.items

  abbrev inputs : List InputName
  inputs = s.prefix ++ input.name ∷ rest

  abbrev known : List Take
  known = now_taken false bytes_so

  clear : is_open (events_taken opts known) ≡ true
  clear = subst (λ g. is_open (events_taken opts g) ≡ true) s.current.given_is s.clear

  pub total-so : total given ≡ total s.done + length bytes_so
  total-so = ap total s.current.given_is ∙ steps.total-now opts s.prefix rest s.done s.read input.name bytes_so false bytes_so

  total-to : (all : Bool) (b : List ℕ) → total (now_taken all b) ≡ total s.done + length b
  total-to all b = steps.total-now opts s.prefix rest s.done s.read input.name bytes_so all b

  -- in terms of what is read whole and what is open
  stepped-so : (turn : ReadTurn) (f : Take → Take) (all : Bool) (b : List ℕ) (reader' : FileReader) (out out' : List Event) → with_last f known ≡ now_taken all b
      → Stepped turn opts inputs known (now_taken all b) reader' out out' → Stepped turn opts names given (with_last f given) reader' out out'
  stepped-so turn f all b reader' out out' is step =
      subst (λ n. Stepped turn opts n given (with_last f given) reader' out out') (sym s.current.names_are)
      (subst (λ g. Stepped turn opts inputs g (with_last f g) reader' out out') (sym s.current.given_is)
      (subst (λ g. Stepped turn opts inputs known g reader' out out') (sym is) step))

  grown-is : (piece : List ℕ) → with_last (grown piece) known ≡ now_taken false (bytes_so ++ piece)
  grown-is piece = steps.grown-now opts s.prefix rest s.done s.read input.name bytes_so piece

  ended-is : with_last ended known ≡ now_taken true bytes_so
  ended-is = steps.ended-now opts s.prefix rest s.done s.read input.name bytes_so

  pub more-part : (all : Bool) (b : List ℕ) (more : List Event) → gives_so all b ≡ gives_so false bytes_so ++ more → is_part more ≡ true
  more-part all b more now_is = steps.more-part opts s.prefix rest s.done s.read input.name bytes_so clear all b more now_is

  order-to : (all : Bool) (b : List ℕ) → InOrder inputs (now_taken all b)
  order-to all b = steps.order-now opts s.prefix rest s.done s.read input.name bytes_so all b

  -- want of memory
  none-to : (grows : SourceGrows) (all : Bool) (b : List ℕ) (reader' : FileReader) (out out' : List Event) → GoesOn known (now_taken all b) → Stepped NoMemory opts inputs known (now_taken all b) reader' out out'
  none-to grows all b reader' out out' on =
      let more = grows opts inputs known (now_taken all b) (order-to false bytes_so) on in
      record {
        order = order-to all b;
        goes_on = on;
        says = tt;
        more = more.0;
        events = more.1;
        appends = λ none. absurd (none refl);
        represents = λ e. absurd (let f : NoMemory ≡ Went = e in cc);
      }

  -- a fault
  faulty-to : (all : Bool) (b : List ℕ) (reader' : FileReader) (out out' : List Event) → GoesOn known (now_taken all b) → (adds : Adds out out' (gives_so false bytes_so) (gives_so all b)) → list_any is_fault adds.0 ≡ true
      → Stepped Ended opts inputs known (now_taken all b) reader' out out'
  faulty-to all b reader' out out' on adds some = record {
    order = order-to all b;
    goes_on = on;
    says = steps.faulty-closed opts s.prefix rest s.done s.read input.name bytes_so clear all b adds.0 adds.1 some;
    more = adds.0;
    events = steps.faulty-source opts s.prefix rest s.done s.read input.name bytes_so clear all b adds.0 adds.1 some;
    appends = λ _. adds.2;
    represents = λ e. absurd (let f : Ended ≡ Went = e in cc);
  }

  -- a piece was read
  module _ (piece : List ℕ) (out out' : List Event) where
    on-piece : GoesOn known (now_taken false (bytes_so ++ piece))
    on-piece = steps.goes_on-grown opts s.prefix rest s.done s.read input.name bytes_so piece

    stops-piece : stops_at inputs (now_taken false (bytes_so ++ piece)) ≡ Some input.name
    stops-piece = steps.stops-open opts s.prefix rest s.done s.read input.name bytes_so (bytes_so ++ piece)

    pub piece-none : (grows : SourceGrows) (reader' : FileReader) → Stepped NoMemory opts names given (with_last (grown piece) given) reader' out out'
    piece-none grows reader' =
        stepped-so NoMemory (grown piece) false (bytes_so ++ piece) reader' out out' (grown-is piece) (none-to grows false (bytes_so ++ piece) reader' out out' on-piece)

    module _ (adds : Adds out out' (gives_so false bytes_so) (gives_so false (bytes_so ++ piece))) where
      pub piece-faulty : (reader' : FileReader) → list_any is_fault adds.0 ≡ true → Stepped Ended opts names given (with_last (grown piece) given) reader' out out'
      piece-faulty reader' some =
          stepped-so Ended (grown piece) false (bytes_so ++ piece) reader' out out' (grown-is piece) (faulty-to false (bytes_so ++ piece) reader' out out' on-piece adds some)

      module _ (none : list_any is_fault adds.0 ≡ false) where
        open-piece : is_open (source opts inputs (now_taken false (bytes_so ++ piece))) ≡ true
        open-piece = steps.stopped-open opts s.prefix rest s.done s.read input.name bytes_so clear false (bytes_so ++ piece) adds.0 adds.1 input.name stops-piece none

        source-piece : source opts inputs (now_taken false (bytes_so ++ piece)) ≡ events_taken opts known ++ adds.0
        source-piece = steps.stopped-source opts s.prefix rest s.done s.read input.name bytes_so clear false (bytes_so ++ piece) adds.0 adds.1 input.name stops-piece

        pub piece-long : (reader' : FileReader) → total given + length piece ≡ 2 ^ 60 → Stepped TooLong opts names given (with_last (grown piece) given) reader' out out'
        piece-long reader' long =
            stepped-so TooLong (grown piece) false (bytes_so ++ piece) reader' out out' (grown-is piece) (record {
              order = order-to false (bytes_so ++ piece);
              goes_on = on-piece;
              says = (open-piece, omega (arith, long, total-so, total-to false (bytes_so ++ piece), length-append bytes_so piece));
              more = adds.0;
              events = source-piece;
              appends = λ _. adds.2;
              represents = λ e. absurd (let f : TooLong ≡ Went = e in cc);
            })

        pub piece-on : (bytes' : List ℕ) (taken' : ℕ) (file' : OpenFile) → taken' ≡ total given + length piece → taken' < 2 ^ 60 → 1 ≤ length piece → FileRepresents file' source_so (bytes_so ++ piece)
            → Stepped Went opts names given (with_last (grown piece) given) (record reader { piece = bytes'; taken = taken'; current = Some (record { name = input.name; reader = file' }) }) out out'
        piece-on bytes' taken' file' taken_is few some represents =
            let reader' : FileReader = record reader { piece = bytes'; taken = taken'; current = Some (record { name = input.name; reader = file' }) } in
            let sum : total (now_taken false (bytes_so ++ piece)) ≡ taken' = omega (arith, taken_is, total-so, total-to false (bytes_so ++ piece), length-append bytes_so piece) in
            stepped-so Went (grown piece) false (bytes_so ++ piece) reader' out out' (grown-is piece) (record {
              order = order-to false (bytes_so ++ piece);
              goes_on = on-piece;
              says = (
                open-piece,
                omega (arith, sum, few),
                omega (arith, sum, taken_is, some, total-so, total-to false bytes_so, ends-append s.done (take_of input.name false bytes_so ∷ []), ends-append s.done (take_of input.name false (bytes_so ++ piece) ∷ [])),
              );
              more = adds.0;
              events = source-piece;
              appends = λ _. adds.2;
              represents = λ _. record {
                order = order-to false (bytes_so ++ piece);
                few = omega (arith, sum, few);
                clear = steps.clear-now opts s.prefix rest s.done s.read input.name bytes_so clear false (bytes_so ++ piece) adds.0 adds.1 none;
                usable = s.usable;
                opts_are = s.opts_are;
                taken_is = sym sum;
                prefix = s.prefix;
                done = s.done;
                read = s.read;
                at_is = s.at_is;
                few_files = s.few_files;
                few_records = s.few_records;
                current = record { bytes = bytes_so ++ piece; names_are = refl; given_is = refl; represents = represents };
              };
            })

        -- whether or not too many bytes were taken
        pub piece-went : (turn : ReadTurn) (bytes' : List ℕ) (taken' : ℕ) (file' : OpenFile) → taken' ≡ total given + length piece → taken' ≤ 2 ^ 60 → 1 ≤ length piece → FileRepresents file' source_so (bytes_so ++ piece) → WentTo turn taken'
            → Stepped turn opts names given (with_last (grown piece) given) (record reader { piece = bytes'; taken = taken'; current = Some (record { name = input.name; reader = file' }) }) out out'
        piece-went Went bytes' taken' file' taken_is few some represents went = piece-on bytes' taken' file' taken_is (less-or taken' few went) some represents
        piece-went Ended bytes' taken' file' taken_is few some represents went = absurd went
        piece-went (Failed name) bytes' taken' file' taken_is few some represents went = absurd went
        piece-went TooLong bytes' taken' file' taken_is few some represents went = piece-long (record reader { piece = bytes'; taken = taken'; current = Some (record { name = input.name; reader = file' }) }) (sym taken_is ∙ went)
        piece-went NoMemory bytes' taken' file' taken_is few some represents went = absurd went

  pub part-so : (all : Bool) (b : List ℕ) → is_part (gives_so all b) ≡ true
  part-so all b = gives-part opts.format source_so all b

  -- the end was met
  module _ (out : List Event) where
    on-end : GoesOn known (now_taken true bytes_so)
    on-end = steps.goes_on-ended opts s.prefix rest s.done s.read input.name bytes_so

    pub end-none : (grows : SourceGrows) (reader' : FileReader) (out' : List Event) → Stepped NoMemory opts names given (with_last ended given) reader' out out'
    end-none grows reader' out' = stepped-so NoMemory ended true bytes_so reader' out out' ended-is (none-to grows true bytes_so reader' out out' on-end)

    module _ (out1 : List Event) (adds : Adds out out1 (gives_so false bytes_so) (gives_so true bytes_so)) where
      pub end-faulty : (reader' : FileReader) → list_any is_fault adds.0 ≡ true → Stepped Ended opts names given (with_last ended given) reader' out out1
      end-faulty reader' some = stepped-so Ended ended true bytes_so reader' out out1 ended-is (faulty-to true bytes_so reader' out out1 on-end adds some)

      module _ (none : list_any is_fault adds.0 ≡ false) (at' : Ctx) (at_is : at' ≡ ctx_after_events source_so.ctx (gives_so true bytes_so)) where
        at-now : at' ≡ ctx_from opts zero_context (now_taken true bytes_so)
        at-now = at_is ∙ sym (steps.ctx-ended opts s.prefix rest s.done s.read input.name bytes_so bytes_so)

        filenum-now : at'.filenum ≡ reader.at.filenum + 1
        filenum-now = ap (λ c. c.filenum) at-now ∙ steps.filenum-ended opts s.prefix rest s.done s.read input.name bytes_so bytes_so ∙ ap (λ c. c.filenum + 1) (sym s.at_is)

        -- the last one
        end-all : (reader' : FileReader) (out2 : List Event) → reader.names.items ≡ [] → out2 ≡ out1 ++ End at' ∷ [] → Stepped Ended opts names given (with_last ended given) reader' out out2
        end-all reader' out2 last appends =
            let stops : stops_at inputs (now_taken true bytes_so) ≡ None = steps.stops-ended opts s.prefix rest s.done s.read input.name bytes_so bytes_so ∙ ap (λ n. stops_at (reverse n) []) last in
            stepped-so Ended ended true bytes_so reader' out out2 ended-is (record {
              order = order-to true bytes_so;
              goes_on = on-end;
              says = steps.whole-closed opts s.prefix rest s.done s.read input.name bytes_so clear true bytes_so adds.0 adds.1 stops none at' at-now;
              more = adds.0 ++ End at' ∷ [];
              events = steps.whole-source opts s.prefix rest s.done s.read input.name bytes_so clear true bytes_so adds.0 adds.1 stops none at' at-now;
              appends = λ _. appends ∙ ap (λ o. o ++ End at' ∷ []) adds.2 ∙ append_assoc out adds.0 (End at' ∷ []);
              represents = λ e. absurd (let f : Ended ≡ Went = e in cc);
            })

        -- another one follows it
        end-on : 1 ≤ length reader.names.items → at'.nr ≤ counted source_so (length bytes_so) + 1 → Stepped Went opts names given (with_last ended given) (record reader { current = None; at = at' }) out out1
        end-on some few =
            let next = stops-some rest (omega (arith, some, length-reverse reader.names.items)) in
            let stops : stops_at inputs (now_taken true bytes_so) ≡ Some next.0 = steps.stops-ended opts s.prefix rest s.done s.read input.name bytes_so bytes_so ∙ next.1 in
            let sum : total (now_taken true bytes_so) ≡ total given = omega (arith, total-so, total-to true bytes_so) in
            stepped-so Went ended true bytes_so (record reader { current = None; at = at' }) out out1 ended-is (record {
              order = order-to true bytes_so;
              goes_on = on-end;
              says = (
                steps.stopped-open opts s.prefix rest s.done s.read input.name bytes_so clear true bytes_so adds.0 adds.1 next.0 stops none,
                omega (arith, sum, s.few),
                omega (arith, sum, total-so, total-to false bytes_so, ends-append s.done (take_of input.name false bytes_so ∷ []), ends-append s.done (take_of input.name true bytes_so ∷ [])),
              );
              more = adds.0;
              events = steps.stopped-source opts s.prefix rest s.done s.read input.name bytes_so clear true bytes_so adds.0 adds.1 next.0 stops;
              appends = λ _. adds.2;
              represents = λ _. record {
                order = order-to true bytes_so;
                few = omega (arith, sum, s.few);
                clear = steps.clear-now opts s.prefix rest s.done s.read input.name bytes_so clear true bytes_so adds.0 adds.1 none;
                usable = s.usable;
                opts_are = s.opts_are;
                taken_is = s.taken_is ∙ sym sum;
                prefix = s.prefix ++ input.name ∷ [];
                done = now_taken true bytes_so;
                read = read-append s.prefix (input.name ∷ []) s.done (take_of input.name true bytes_so ∷ []) s.read (refl, refl, tt);
                at_is = at-now;
                few_files = omega (arith, filenum-now, s.few_files);
                few_records = omega (arith, filenum-now, s.few_records, few, ap (λ c. c.nr) s.at_is, total-to true bytes_so);
                current = record { names_are = sym (append_assoc s.prefix (input.name ∷ []) rest); given_is = refl };
              };
            })

        -- whether or not another one does
        pub end-closes : (grows : SourceGrows) (current' : Option OpenInput) (turn : ReadTurn) (reader' : FileReader) (out2 : List Event) → at'.nr ≤ counted source_so (length bytes_so) + 1
            → Closes turn at' (record reader { current = current' }) reader' out1 out2 → Stepped turn opts names given (with_last ended given) reader' out out2
        end-closes grows current' Went reader' out2 few closes =
            subst (λ r. Stepped Went opts names given (with_last ended given) r out out2) (sym closes.1)
            (subst (λ o. Stepped Went opts names given (with_last ended given) (record reader { current = None; at = at' }) out o) (sym closes.2) (end-on closes.0 few))
        end-closes grows current' Ended reader' out2 few closes = end-all reader' out2 closes.0 closes.1
        end-closes grows current' (Failed name) reader' out2 few closes = absurd closes
        end-closes grows current' TooLong reader' out2 few closes = absurd closes
        end-closes grows current' NoMemory reader' out2 few closes = end-none grows reader' out2
