-- How far left files are read, one after another.
use Rattle.std.proofs.Common.{◌≡◌, List, [], ◌∷◌, ◌++◌, refl, ap, sym, ◌∙◌, append_assoc}
use Rattle.mlr_world.specs.Taken.{Take}
use Rattle.read_files.specs.Represents.{AllRead}
use Rattle.left_files.specs.declared.left_file.LeftFile.{LeftFile}
use Rattle.left_files.specs.Lefts.{LeftState, faulted, left_state, lefts_of, names_of, reading, then_state, whole}

none-then : (state : LeftState) → then_state (whole []) state ≡ state
none-then reading = refl
none-then (faulted fault) = refl
none-then (whole lefts) = refl

then-assoc : (a b c : LeftState) → then_state (then_state a b) c ≡ then_state a (then_state b c)
then-assoc reading b c = refl
then-assoc (faulted fault) b c = refl
then-assoc (whole lefts) reading c = refl
then-assoc (whole lefts) (faulted fault) c = refl
then-assoc (whole lefts) (whole more) reading = refl
then-assoc (whole lefts) (whole more) (faulted fault) = refl
then-assoc (whole lefts) (whole more) (whole last) = ap whole (append_assoc lefts more last)

-- files after others that were read whole
pub lefts-following : (prefix rest : List LeftFile) (done takes : List Take) → AllRead (names_of prefix) done → lefts_of (prefix ++ rest) (done ++ takes) ≡ then_state (lefts_of prefix done) (lefts_of rest takes)
lefts-following [] rest [] takes read = sym (none-then (lefts_of rest takes))
lefts-following [] rest (take ∷ done) takes read = absurd read
lefts-following (file ∷ prefix) rest [] takes read = absurd read
lefts-following (file ∷ prefix) rest (take ∷ done) takes read =
    ap (then_state (left_state file take)) (lefts-following prefix rest done takes read.2) ∙ sym (then-assoc (left_state file take) (lefts_of prefix done) (lefts_of rest takes))
