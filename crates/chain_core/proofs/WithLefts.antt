-- What a run with left files means, as more is taken.
use Rattle.std.proofs.Common.{◌≡◌, ℕ, true, false, List, [], ◌++◌, ◌≤◌, length, take, drop, refl, ap, ap₂, sym, ◌∙◌, subst, arith}
use Rattle.std.proofs.Math.Seq.{drop-append_seam, take-append_seam}
use Rattle.std.proofs.lemmas.Bool.{true≢false}
use Rattle.std.proofs.lemmas.List.{drop_all, length-map, take_all}
use Rattle.mlr_event.specs.declared.event.Event.{Event}
use Rattle.mlr_event.specs.declared.names.InputName.{InputName}
use Rattle.mlr_event.specs.Verb.{Verb, is_open}
use Rattle.mlr_world.specs.Taken.{Take}
use Rattle.outlet.specs.Out.{out_of}
use Rattle.writers.specs.declared.options.WriteOpts.{WriteOpts}
use Rattle.read_files.specs.Takes.{GoesOn, InOrder}
use Rattle.read_files.specs.Represents.{AllRead}
use Rattle.left_files.specs.declared.left_file.LeftFile.{LeftFile}
use Rattle.left_files.specs.Lefts.{LeftState, faulted, lefts_of, reading, whole}
use Rattle.left_files.specs.Lefts as left
use Rattle.left_files.proofs.Stopping.{LeftsFixed}
use Rattle.serial_core.specs.Command.{Command, Origin, result}
use Rattle.serial_core.specs.Command as main
use Rattle.serial_core.specs.Meaning.{Meaning, meaning_of, text}
use Rattle.serial_core.proofs.Wholes.{ResultFixed, ResultGrows}
use Rattle.chain_core.specs.Meanings.{result_by, with_lefts}
use Rattle.chain_core.proofs.Parting.{goes-first, goes-rest, order-first, order-rest, order-short, read-many}
use Rattle.chain_core.proofs.Plain.{are_plain}

module _ (files : List LeftFile) (origin : Origin) (verbs : List (List Event) → List Verb) (write : WriteOpts) where
  abbrev pub command : List (List Event) → Command
  command lefts = record { origin = origin; verbs = verbs lefts; write = write }

  abbrev pub meaning : Meaning
  meaning = with_lefts files origin verbs write

  abbrev pub left_names : List InputName
  left_names = left.names_of files

  abbrev pub main_names : List InputName
  main_names = main.names_of origin

  pub many : length left_names ≡ length files
  many = length-map files (λ file. file.name)

  -- the parts of what was taken
  pub first-order : (given : List Take) → InOrder meaning.names given → InOrder left_names (take (length files) given)
  first-order given order = subst (λ n. InOrder left_names (take n given)) many (order-first left_names main_names given order)

  pub rest-order : (given : List Take) → InOrder meaning.names given → InOrder main_names (drop (length files) given)
  rest-order given order = subst (λ n. InOrder main_names (drop n given)) many (order-rest left_names main_names given order)

  -- where left files alone were read
  pub alone : (given : List Take) → InOrder left_names given → meaning.result given ≡ result_by command (lefts_of files given) []
  alone given order =
      let within : length given ≤ length files = omega (arith, order-short left_names given order, many) in
      ap₂ (λ first rest. result_by command (lefts_of files first) rest) (take_all (length files) given within) (drop_all (length files) given within)

  -- where they were read whole, and main inputs after them
  module _ (given : List Take) (read : AllRead left_names given) where
    read-length : length given ≡ length files
    read-length = read-many left_names given read ∙ many

    pub first-is : (taken : List Take) → take (length files) (given ++ taken) ≡ given
    first-is taken = ap (λ n. take n (given ++ taken)) (sym read-length) ∙ take-append_seam given taken

    pub rest-is : (taken : List Take) → drop (length files) (given ++ taken) ≡ taken
    rest-is taken = ap (λ n. drop n (given ++ taken)) (sym read-length) ∙ drop-append_seam given taken

    pub following : (taken : List Take) (lefts : List (List Event)) → lefts_of files given ≡ whole lefts → meaning.result (given ++ taken) ≡ result (command lefts) taken
    following taken lefts is =
        ap₂ (λ first rest. result_by command (lefts_of files first) rest) (first-is taken) (rest-is taken) ∙ ap (λ state. result_by command state taken) is

  module _ (lefts_fixed : LeftsFixed) where
    -- left files with a fault, or that are whole, stay so
    same-lefts : (given longer : List Take) → InOrder meaning.names given → InOrder meaning.names longer → GoesOn given longer → (state : LeftState) → lefts_of files (take (length files) given) ≡ state → (state ≡ reading → ⊥)
        → (rest : List Take) → result_by command (lefts_of files (take (length files) longer)) rest ≡ result_by command state rest
    same-lefts given longer order order' on state is some rest =
        ap (λ s. result_by command s rest)
        (lefts_fixed files (take (length files) given) (take (length files) longer) (first-order given order) (first-order longer order') (goes-first (length files) given longer on) (λ r. some (sym is ∙ r)) ∙ is)

    pub lefts-fixed : ((lefts : List (List Event)) → ResultFixed (meaning_of (command lefts))) → ResultFixed meaning
    lefts-fixed fixed given longer order order' on closed = by (lefts_of files (take (length files) given)) refl closed
      where
        by : (state : LeftState) → lefts_of files (take (length files) given) ≡ state → is_open (result_by command state (drop (length files) given)) ≡ false
            → meaning.result longer ≡ result_by command state (drop (length files) given)
        by reading is shut = absurd (true≢false shut)
        by (faulted fault) is shut = same-lefts given longer order order' on (faulted fault) is (λ r. let e : faulted fault ≡ reading = r in let f = e in cc) (drop (length files) longer)
        by (whole lefts) is shut =
            same-lefts given longer order order' on (whole lefts) is (λ r. let e : whole lefts ≡ reading = r in let f = e in cc) (drop (length files) longer)
            ∙ fixed lefts (drop (length files) given) (drop (length files) longer) (rest-order given order) (rest-order longer order') (goes-rest (length files) given longer on) shut

    pub lefts-grow : ((lefts : List (List Event)) → ResultGrows (meaning_of (command lefts))) → ResultGrows meaning
    lefts-grow grows given longer order order' on = by (lefts_of files (take (length files) given)) refl
      where
        by : (state : LeftState) → lefts_of files (take (length files) given) ≡ state → (more : List ℕ) × (text meaning longer ≡ out_of write (result_by command state (drop (length files) given)) ++ more)
        by reading is = (text meaning longer, refl)
        by (faulted fault) is = ([], ap (out_of write) (same-lefts given longer order order' on (faulted fault) is (λ r. let e : faulted fault ≡ reading = r in let f = e in cc) (drop (length files) longer)))
        by (whole lefts) is =
            let more = grows lefts (drop (length files) given) (drop (length files) longer) (rest-order given order) (rest-order longer order') (goes-rest (length files) given longer on) in
            (more.0, ap (out_of write) (same-lefts given longer order order' on (whole lefts) is (λ r. let e : whole lefts ≡ reading = r in let f = e in cc) (drop (length files) longer)) ∙ more.1)

  -- no piece comes of it, where none comes of the main inputs
  pub lefts-plain : ((lefts : List (List Event)) (given : List Take) → are_plain (result (command lefts) given) ≡ true) → (given : List Take) → are_plain (meaning.result given) ≡ true
  lefts-plain plain given = by (lefts_of files (take (length files) given))
    where
      by : (state : LeftState) → are_plain (result_by command state (drop (length files) given)) ≡ true
      by reading = refl
      by (faulted fault) = refl
      by (whole lefts) = plain lefts (drop (length files) given)
