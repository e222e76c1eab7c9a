-- How little is taken of left files.
use Rattle.std.proofs.Common.{◌≡◌, ℕ, ◌+◌, ◌<◌, List, ◌++◌, Option, Some, None, ap, sym, ◌∙◌, subst, inl, inr, arith}
use Rattle.std.specs.Prelude.{IfSome}
use Rattle.std.specs.Option.{option_map}
use Rattle.std.proofs.lemmas.Bool.{cases_lt}
use Rattle.mlr_event.specs.declared.names.InputName.{InputName}
use Rattle.mlr_world.specs.Inputs.{Contents}
use Rattle.mlr_world.specs.Taken.{Take, OpenEntry}
use Rattle.read_files.specs.Takes.{After, ArePrefixesTaken, GoesOn, InOrder, taken_by, total}
use Rattle.left_files.specs.declared.left_file.LeftFile.{LeftFile}
use Rattle.left_files.specs.declared.reader.LeftReader.{LeftReader}
use Rattle.left_files.specs.Lefts.{lefts_of, names_of, reading}
use Rattle.left_files.specs.Represents.{Represents, StopsEarly}

abbrev pub LeftsFixed : Type 0
LeftsFixed = (files : List LeftFile) (given longer : List Take) → InOrder (names_of files) given → InOrder (names_of files) longer → GoesOn given longer → (lefts_of files given ≡ reading → ⊥) → lefts_of files longer ≡ lefts_of files given

abbrev pub SourceEarly : Type 0
SourceEarly = (told : Contents) (names : List InputName) (given : List Take) (n : ℕ) → InOrder names given → ArePrefixesTaken told given → n < total given → GoesOn (taken_by told names n) given × InOrder names (taken_by told names n)

module _ (fixed : LeftsFixed) (early : SourceEarly) (files : List LeftFile) (given given' : List Take) {reader : LeftReader} (s : Represents files given reader) where
  -- the last read was made where the result wasn't fixed
  stops-early : (told : Contents) → ArePrefixesTaken told given → total given' < total given + 65536 → StopsEarly files told given'
  stops-early told prefixes one n some = elim (cases_lt n (total given)) [
    | inl less ↦
        let on = early told (names_of files) given n s.order prefixes less in
        let same = fixed files (taken_by told (names_of files) n) given on.1 s.order on.0 some in
        absurd (elim s.begun [ inl nothing ↦ omega (arith, less, ap total nothing) | inr is ↦ some (sym same ∙ is) ])
    | inr more ↦ omega (arith, more, one)
  ]

  pub stopped-early : (contents : Option Contents) (before taken : Option (List Take)) (entry : Option OpenEntry) → After before given contents taken entry → total given' < total given + 65536
      → IfSome contents (λ told. IfSome before (λ _. StopsEarly files told given'))
  stopped-early contents before taken entry following one =
      by contents before (subst (λ t. IfSome contents (λ told. IfSome t (λ _. ArePrefixesTaken told given))) following.entries following.prefixes)
    where
      by : (c : Option Contents) (b : Option (List Take)) → IfSome c (λ told. IfSome (option_map (λ takes. takes ++ given) b) (λ _. ArePrefixesTaken told given)) → IfSome c (λ told. IfSome b (λ _. StopsEarly files told given'))
      by None b prefixes = tt
      by (Some told) None prefixes = tt
      by (Some told) (Some takes) prefixes = stops-early told prefixes one
