-- Left files that are whole were read to their ends.
use Rattle.std.proofs.Common.{◌≡◌, true, List, [], ◌∷◌, ◌++◌, length, Option, Some, None, refl, ap, sym, ◌∙◌, inl, inr, arith, length-append}
use Rattle.std.specs.Prelude.{if◌then◌else◌}
use Rattle.std.proofs.lemmas.Bool.{cases_Bool}
use Rattle.mlr_event.specs.declared.event.Event.{Event}
use Rattle.mlr_event.specs.declared.fault.Fault.{Fault}
use Rattle.mlr_world.specs.Taken.{Take}
use Rattle.read_files.specs.Takes.{InOrder}
use Rattle.read_files.specs.Represents.{AllRead}
use Rattle.left_files.specs.declared.left_file.LeftFile.{LeftFile}
use Rattle.left_files.specs.Lefts.{LeftState, at_left, fault_in, faulted, left_events, left_state, lefts_of, names_of, reading, then_state, whole}
use Rattle.left_files.proofs.Files.{left-clear, left-faulted}
use Rattle.left_files.proofs.Fixed.{order-first, order-rest}

reading-not-whole : (lefts : List (List Event)) → reading ≡ whole lefts → ⊥
reading-not-whole lefts is = let e : reading ≡ whole lefts = is in cc

faulted-not-whole : (fault : Fault) (lefts : List (List Event)) → faulted fault ≡ whole lefts → ⊥
faulted-not-whole fault lefts is = let e : faulted fault ≡ whole lefts = is in cc

same-lefts : (some lefts : List (List Event)) → whole some ≡ whole lefts → some ≡ lefts
same-lefts some lefts is = let e : some ≡ lefts = cc in e

-- a file that is whole
one-whole : (file : LeftFile) (take : Take) (lefts : List (List Event)) → left_state file take ≡ whole lefts → (found : Option Fault) → fault_in (left_events file take) ≡ found → (take.ended ≡ true) × (length lefts ≡ 1)
one-whole file take lefts is (Some fault) found = absurd (faulted-not-whole (at_left file.number fault) lefts (sym (left-faulted file take fault found) ∙ is))
one-whole file take lefts is None found = elim (cases_Bool take.ended) [
  | inl all ↦
      let state = left-clear file take found ∙ ap (λ b. if b then whole (left_events file take ∷ []) else reading) all in
      (all, ap length (sym (same-lefts (left_events file take ∷ []) lefts (sym state ∙ is))))
  | inr part ↦ absurd (reading-not-whole lefts (sym (left-clear file take found ∙ ap (λ b. if b then whole (left_events file take ∷ []) else reading) part) ∙ is))
]

-- and files after it
both-whole : (a b : LeftState) (lefts : List (List Event)) → then_state a b ≡ whole lefts → (first : List (List Event)) × (more : List (List Event)) × (a ≡ whole first) × (b ≡ whole more) × (first ++ more ≡ lefts)
both-whole reading b lefts is = absurd (reading-not-whole lefts is)
both-whole (faulted fault) b lefts is = absurd (faulted-not-whole fault lefts is)
both-whole (whole first) reading lefts is = absurd (reading-not-whole lefts is)
both-whole (whole first) (faulted fault) lefts is = absurd (faulted-not-whole fault lefts is)
both-whole (whole first) (whole more) lefts is = (first, more, refl, refl, same-lefts (first ++ more) lefts is)

pub whole-read : (files : List LeftFile) (given : List Take) (lefts : List (List Event)) → InOrder (names_of files) given → lefts_of files given ≡ whole lefts → AllRead (names_of files) given × (length lefts ≡ length files)
whole-read [] [] lefts order is = (tt, ap length (sym (same-lefts [] lefts is)))
whole-read [] (take ∷ given) lefts order is = absurd order
whole-read (file ∷ files) [] lefts order is = absurd (reading-not-whole lefts is)
whole-read (file ∷ files) (take ∷ given) lefts order is =
    let parts = both-whole (left_state file take) (lefts_of files given) lefts is in
    let one = one-whole file take parts.0 parts.2 (fault_in (left_events file take)) refl in
    let rest = whole-read files given parts.1 (order-rest file.name (names_of files) take given order) parts.3 in
    let e : length lefts ≡ length (file ∷ files) = omega (arith, one.1, rest.1, ap length parts.4, length-append parts.0 parts.1) in
    ((order-first file.name (names_of files) take given order, one.0, rest.0), e)
