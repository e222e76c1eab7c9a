-- A run that reads left files first, put together of the reading of them and the run of the main inputs.
use Rattle.std.proofs.Common.{◌≡◌, ℕ, ◌+◌, ◌-◌, ◌<◌, ◌≤◌, ◌^◌, false, List, [], ◌++◌, length, take, drop, Option, Some, None, refl, ap, sym, ◌∙◌, subst, inl, inr, arith}
use Rattle.std.specs.Prelude.{IfSome}
use Rattle.std.specs.List.{list_any}
use Rattle.std.specs.Option.{option_map}
use Rattle.std.proofs.Math.Seq.{take-append_seam, drop-append_seam}
use Rattle.std.proofs.lemmas.Bool.{cases_lt, true≢false}
use Rattle.std.proofs.lemmas.List.{append-nil, drop_all}
use Rattle.mlr_event.specs.declared.event.Event.{Event}
use Rattle.mlr_event.specs.declared.fault.Fault.{Fault}
use Rattle.mlr_event.specs.declared.names.InputName.{InputName}
use Rattle.mlr_event.specs.declared.names.Target.TheVariants.{Stdout}
use Rattle.mlr_event.specs.Verb.{Verb, is_end, is_open}
use Rattle.mlr_world.specs.Inputs.{Contents}
use Rattle.mlr_world.specs.Outputs.{Held, ChangesAt, with_bytes}
use Rattle.mlr_world.specs.Taken.{Take, OpenEntry}
use Rattle.mlr_world.proofs.Changes.{ChangesAt-none, with_bytes-none}
use Rattle.outlet.specs.Out.{fault_in, out_of}
use Rattle.outlet.specs.Represents.{AppendsPrefix}
use Rattle.outlet.proofs.Writing.{nothing-put}
use Rattle.writers.specs.declared.options.WriteOpts.{WriteOpts}
use Rattle.read_files.specs.Takes.{After, ArePrefixesTaken, GoesOn, InOrder, stops_at, taken_by, total}
use Rattle.read_files.specs.Represents.{AllRead}
use Rattle.read_files.proofs.Given.{order-following, stops-following, total-append}
use Rattle.left_files.specs.declared.left_file.LeftFile.{LeftFile}
use Rattle.left_files.specs.Lefts.{LeftState, faulted, lefts_of, reading, whole}
use Rattle.left_files.specs.Represents.{open_bytes}
use Rattle.left_files.specs.Represents as left
use Rattle.left_files.proofs.Following.{following-all}
use Rattle.left_files.proofs.Stopping.{LeftsFixed, SourceEarly}
use Rattle.serial_core.specs.declared.answer.Ended.{Ended}
use Rattle.serial_core.specs.declared.answer.Ended.TheVariants as answer
use Rattle.serial_core.specs.Command.{Origin, result}
use Rattle.serial_core.specs.Meaning.{AreShort, Meaning, counted, meaning_of, text}
use Rattle.serial_core.specs.Represents.{Leaves, Says}
use Rattle.serial_core.specs.Run.{HoldsFew, Run, StopsEarly}
use Rattle.serial_core.specs.Whole.{OfWhole, whole_of}
use Rattle.serial_core.proofs.Stopping.{following-prefixes, if-both}
use Rattle.serial_core.proofs.Wholes.{ResultFixed, ResultGrows, of-whole}
use Rattle.chain_core.specs.Meanings.{result_by}
use Rattle.chain_core.proofs.WithLefts.{alone, command, following, left_names, lefts-fixed, lefts-grow, main_names, many, meaning, rest-is}
use Rattle.chain_core.proofs.Parting.{counted-first, counted-rest, few-open, order-short, order-within, read-stops, stops-within, taken-first, taken-most, taken-past, whole-read}

-- what holds where contents and takes are known
of-both : {A B : Type 0} (o : Option A) (p : Option B) (P : A → Type 0) (a : A) (b : B) → o ≡ Some a → p ≡ Some b → IfSome o (λ a. IfSome p (λ _. P a)) → P a
of-both o p P a b is_a is_b holds = subst (λ q. IfSome q (λ _. P a)) is_b (subst (λ r. IfSome r (λ a. IfSome p (λ _. P a))) is_a holds)

-- after the last input nothing more is taken
abbrev pub SourceAll : Type 0
SourceAll = (names : List InputName) (given longer : List Take) → InOrder names given → InOrder names longer → GoesOn given longer → stops_at names given ≡ None → longer ≡ given

module _ (files : List LeftFile) (origin : Origin) (verbs : List (List Event) → List Verb) (write : WriteOpts) where
  abbrev by_lefts : Meaning
  by_lefts = meaning files origin verbs write

  abbrev lefts_names : List InputName
  lefts_names = left_names files origin verbs write

  abbrev mains : List InputName
  mains = main_names files origin verbs write

  many-so : length lefts_names ≡ length files
  many-so = many files origin verbs write

  -- the laws of left files, of inputs, and of the command by what left files hold
  module _ (lefts_fixed : LeftsFixed) (read_of : (given : List Take) (lefts : List (List Event)) → InOrder lefts_names given → lefts_of files given ≡ whole lefts → AllRead lefts_names given)
      (early : SourceEarly) (all : SourceAll)
      (fixed : (lefts : List (List Event)) → ResultFixed (meaning_of (command files origin verbs write lefts))) (grows : (lefts : List (List Event)) → ResultGrows (meaning_of (command files origin verbs write lefts)))
      (contents : Option Contents) (taken : Option (List Take)) where
    pub fixed-so : ResultFixed by_lefts
    fixed-so = lefts-fixed files origin verbs write lefts_fixed fixed

    pub grows-so : ResultGrows by_lefts
    grows-so = lefts-grow files origin verbs write lefts_fixed grows

    -- the outcome and the outputs by all that the inputs hold
    whole-so : (ended : Ended) (given : List Take) (taken' : Option (List Take)) (entry' : Option OpenEntry) (held held' : Option Held) → InOrder by_lefts.names given → After taken given contents taken' entry' → Says ended by_lefts given
        → ChangesAt Stdout (Leaves ended (text by_lefts given)) held held' → IfSome contents (λ told. IfSome taken (λ _. OfWhole ended by_lefts told held held'))
    whole-so ended given taken' entry' held held' order after says leaves =
        if-both contents taken (λ told. OfWhole ended by_lefts told held held')
        (λ told takes told_is takes_is. of-whole by_lefts fixed-so grows-so told given order (following-prefixes taken given contents taken' entry' after told takes told_is takes_is) held held' ended says leaves)

    -- where a result has an end or a fault, left files aren't being read any more
    not-reading : (told : Contents) (n : ℕ) → is_open (by_lefts.result (taken_by told by_lefts.names n)) ≡ false → lefts_of files (taken_by told lefts_names n) ≡ reading → ⊥
    not-reading told n closed is =
        let first : take (length files) (taken_by told by_lefts.names n) ≡ taken_by told lefts_names n = ap (λ k. take k (taken_by told by_lefts.names n)) (sym many-so) ∙ taken-first told lefts_names mains n in
        let none : by_lefts.result (taken_by told by_lefts.names n) ≡ [] = ap (λ state. result_by (command files origin verbs write) state (drop (length files) (taken_by told by_lefts.names n))) (ap (lefts_of files) first ∙ is) in
        true≢false (ap is_open (sym none) ∙ closed)

    module _ (given : List Take) (taken' : Option (List Take)) (entry' : Option OpenEntry) (order : InOrder lefts_names given) (after : After taken given contents taken' entry') where
      -- the run is over with the left files
      module _ (stops : IfSome contents (λ told. IfSome taken (λ _. left.StopsEarly files told given))) (few : open_bytes given ≤ 2 ^ 60) where
        counted-so : counted (length files) given ≡ open_bytes given
        counted-so = ap (λ n. counted n given) (sym many-so) ∙ counted-first lefts_names given order

        none-main : drop (length files) given ≡ []
        none-main = drop_all (length files) given (omega (arith, order-short lefts_names given order, many-so))

        early-so : IfSome contents (λ told. IfSome taken (λ _. StopsEarly by_lefts told given))
        early-so =
            if-both contents taken (λ told. StopsEarly by_lefts told given)
            (λ told takes told_is takes_is. record {
              at_once = λ closed. none-main;
              soon = λ n closed. of-both contents taken (λ told. left.StopsEarly files told given) told takes told_is takes_is stops n (not-reading told n closed);
            })

        over-so : (ended : Ended) → Says ended by_lefts given → (held : Option Held) → ChangesAt Stdout (Leaves ended (text by_lefts given)) held held → Run ended by_lefts contents taken taken' entry' held held
        over-so ended says held leaves = record {
          given = given;
          order = order-within lefts_names mains given order;
          following = after;
          few = omega (arith, counted-so, few);
          says = says;
          leaves = leaves;
          early = early-so;
          whole = whole-so ended given taken' entry' held held (order-within lefts_names mains given order) after says leaves;
        }

        result-so : (state : LeftState) → lefts_of files given ≡ state → by_lefts.result given ≡ result_by (command files origin verbs write) state []
        result-so state is = alone files origin verbs write given order ∙ ap (λ s. result_by (command files origin verbs write) s []) is

        -- nothing was written
        unwritten : (step : List ℕ → Option (List ℕ) → Option (List ℕ) → Type 0) → ((before : Option (List ℕ)) → step [] before before) → (held : Option Held) → text by_lefts given ≡ [] → ChangesAt Stdout (step (text by_lefts given)) held held
        unwritten step none held is = subst (λ t. ChangesAt Stdout (step t) held held) (sym is) (ChangesAt-none Stdout (step []) none held)

        pub faulted-run : (fault : Fault) → lefts_of files given ≡ faulted fault → (held : Option Held) → Run (answer.Data fault) by_lefts contents taken taken' entry' held held
        faulted-run fault is held =
            let made = result-so (faulted fault) is in
            over-so (answer.Data fault) (ap fault_in made) held (unwritten (λ t b n. n ≡ with_bytes t b) with_bytes-none held (ap (out_of write) made))

        pub failed-run : (name : InputName) → lefts_of files given ≡ reading → stops_at lefts_names given ≡ Some name → open_bytes given < 2 ^ 60 → (held : Option Held) → Run (answer.Read name) by_lefts contents taken taken' entry' held held
        failed-run name is stop little held =
            let made = result-so reading is in
            over-so (answer.Read name) (ap is_open made, stops-within lefts_names mains given name stop, omega (arith, counted-so, little)) held (unwritten (λ t b n. n ≡ with_bytes t b) with_bytes-none held (ap (out_of write) made))

        pub long-run : lefts_of files given ≡ reading → open_bytes given ≡ 2 ^ 60 → (held : Option Held) → Run answer.TooLong by_lefts contents taken taken' entry' held held
        long-run is long held =
            let made = result-so reading is in
            over-so answer.TooLong (ap is_open made, counted-so ∙ long) held (unwritten (λ t b n. n ≡ with_bytes t b) with_bytes-none held (ap (out_of write) made))

        pub short-run : (held : Option Held) → Run answer.NoMemory by_lefts contents taken taken' entry' held held
        short-run held = over-so answer.NoMemory tt held (ChangesAt-none Stdout (AppendsPrefix (text by_lefts given)) (λ before. nothing-put (text by_lefts given) before before refl) held)

        -- no left file is too long where each holds few bytes
        pub never-long : HoldsFew by_lefts contents taken → open_bytes given ≡ 2 ^ 60 → ⊥
        never-long holds long =
            let prefixes = following-prefixes taken given contents taken' entry' after holds.told holds.before holds.contents_told holds.taken_told in
            let short = subst (λ names. AreShort holds.told names) (ap (λ n. take n (lefts_names ++ mains)) (sym many-so) ∙ take-append_seam lefts_names mains) holds.lefts in
            omega (arith, long, few-open holds.told lefts_names given order prefixes short)

      -- the left files were read whole
      module _ (lefts : List (List Event)) (is : lefts_of files given ≡ whole lefts) where
        read : AllRead lefts_names given
        read = read_of given lefts order is

        made-so : (main : List Take) → by_lefts.result (given ++ main) ≡ result (command files origin verbs write lefts) main
        made-so main = following files origin verbs write given read main lefts is

        -- what fewer bytes of them give is fixed by none of them
        less-open : (told : Contents) → ArePrefixesTaken told given → (n : ℕ) → n < total given → lefts_of files (taken_by told lefts_names n) ≡ reading
        less-open told prefixes n less = by (lefts_of files (taken_by told lefts_names n)) refl
          where
            on : GoesOn (taken_by told lefts_names n) given × InOrder lefts_names (taken_by told lefts_names n)
            on = early told lefts_names given n order prefixes less

            same : (state : LeftState) → lefts_of files (taken_by told lefts_names n) ≡ state → (state ≡ reading → ⊥) → whole lefts ≡ state
            same state now some = sym is ∙ lefts_fixed files (taken_by told lefts_names n) given on.1 order on.0 (λ r. some (sym now ∙ r)) ∙ now

            by : (state : LeftState) → lefts_of files (taken_by told lefts_names n) ≡ state → state ≡ reading
            by reading now = refl
            by (faulted fault) now =
                absurd (let e : whole lefts ≡ faulted fault = same (faulted fault) now (λ r. let e : faulted fault ≡ reading = r in let f = e in cc) in let f = e in cc)
            by (whole more) now =
                let done = read_of (taken_by told lefts_names n) more on.1 now in
                let alike : given ≡ taken_by told lefts_names n = all lefts_names (taken_by told lefts_names n) given on.1 order on.0 (read-stops lefts_names (taken_by told lefts_names n) done) in
                absurd (omega (arith, less, ap total alike, taken-most told lefts_names n))

        module _ (ended : Ended) (taken'' : Option (List Take)) (entry'' : Option OpenEntry) (held held' : Option Held) (run : Run ended (meaning_of (command files origin verbs write lefts)) contents taken' taken'' entry'' held held') where
          abbrev given-now : List Take
          given-now = given ++ run.given

          order-now : InOrder by_lefts.names given-now
          order-now = order-following lefts_names mains given run.given read run.order

          counted-now : counted (length files) given-now ≡ total run.given
          counted-now = ap (λ n. counted n given-now) (sym many-so) ∙ counted-rest lefts_names given run.given read

          after-now : After taken given-now contents taken'' entry''
          after-now =
              following-all taken given contents taken'' entry'' lefts_names read [] run.given taken' entry' (subst (λ g. After taken g contents taken' entry') (sym (append-nil given)) after)
              (subst (λ t. After t run.given contents taken'' entry'') after.entries run.following)

          says-now : (ended : Ended) → Says ended (meaning_of (command files origin verbs write lefts)) run.given → Says ended by_lefts given-now
          says-now answer.Done says = ap (list_any is_end) (made-so run.given) ∙ says
          says-now (answer.Refused refusal) says = says
          says-now (answer.Data fault) says = ap fault_in (made-so run.given) ∙ says
          says-now (answer.Read name) says =
              let little : total run.given < 2 ^ 60 = says.2 in
              (ap is_open (made-so run.given) ∙ says.0, stops-following lefts_names mains given run.given read ∙ says.1, omega (arith, counted-now, little))
          says-now (answer.Written target) says = says
          says-now answer.TooLong says = (ap is_open (made-so run.given) ∙ says.0, counted-now ∙ says.1)
          says-now answer.NoMemory says = tt

          leaves-now : ChangesAt Stdout (Leaves ended (text by_lefts given-now)) held held'
          leaves-now = subst (λ events. ChangesAt Stdout (Leaves ended (out_of write events)) held held') (sym (made-so run.given)) run.leaves

          -- where contents and takes are known
          module _ (told : Contents) (takes : List Take) (told_is : contents ≡ Some told) (takes_is : taken ≡ Some takes) where
            prefixes : ArePrefixesTaken told given
            prefixes = following-prefixes taken given contents taken' entry' after told takes told_is takes_is

            stops : StopsEarly (meaning_of (command files origin verbs write lefts)) told run.given
            stops = of-both contents taken' (λ told. StopsEarly (meaning_of (command files origin verbs write lefts)) told run.given) told (takes ++ given) told_is (after.entries ∙ ap (option_map (λ before. before ++ given)) takes_is) run.early

            at-once : is_open (by_lefts.result (whole_of told (take (length files) by_lefts.names))) ≡ false → drop (length files) given-now ≡ []
            at-once closed =
                let names : take (length files) by_lefts.names ≡ lefts_names = ap (λ n. take n by_lefts.names) (sym many-so) ∙ take-append_seam lefts_names mains in
                let all-whole : whole_of told (take (length files) by_lefts.names) ≡ given ++ [] = ap (whole_of told) names ∙ whole-read told lefts_names given read prefixes ∙ sym (append-nil given) in
                rest-is files origin verbs write given read run.given ∙ stops.at_once (ap is_open (sym (ap by_lefts.result all-whole ∙ made-so [])) ∙ closed)

            soon : (n : ℕ) → is_open (by_lefts.result (taken_by told by_lefts.names n)) ≡ false → total given-now < n + 65536
            soon n closed = elim (cases_lt n (total given)) [
              | inl less ↦ absurd (not-reading told n closed (less-open told prefixes n less))
              | inr enough ↦
                  let past = taken-past told lefts_names mains given n read prefixes enough in
                  let shut = ap is_open (sym (ap by_lefts.result past ∙ made-so (taken_by told mains (n - total given)))) ∙ closed in
                  omega (arith, enough, stops.soon (n - total given) shut, total-append given run.given)
            ]

          pub main-run : Run ended by_lefts contents taken taken'' entry'' held held'
          main-run = record {
            given = given-now;
            order = order-now;
            following = after-now;
            few = let little : total run.given ≤ 2 ^ 60 = run.few in omega (arith, counted-now, little);
            says = says-now ended run.says;
            leaves = leaves-now;
            early = if-both contents taken (λ told. StopsEarly by_lefts told given-now) (λ told takes told_is takes_is. record { at_once = at-once told takes told_is takes_is; soon = soon told takes told_is takes_is });
            whole = whole-so ended given-now taken'' entry'' held held' order-now after-now (says-now ended run.says) leaves-now;
          }

        -- the main inputs hold few bytes
        pub holds-main : HoldsFew by_lefts contents taken → HoldsFew (meaning_of (command files origin verbs write lefts)) contents taken'
        holds-main holds = record {
          told = holds.told;
          contents_told = holds.contents_told;
          before = holds.before ++ given;
          taken_told = after.entries ∙ ap (option_map (λ before. before ++ given)) holds.taken_told;
          lefts = tt;
          few = subst (λ names. total (whole_of holds.told names) < 2 ^ 60) (ap (λ n. drop n (lefts_names ++ mains)) (sym many-so) ∙ drop-append_seam lefts_names mains) holds.few;
        }
