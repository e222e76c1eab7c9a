-- How many bytes were taken of the file that is being read.
use Rattle.std.proofs.Common.{◌≡◌, ℕ, ◌≤◌, ◌+◌, Bool, true, false, List, [], ◌∷◌, ◌++◌, length, refl, ap, ◌∙◌, arith}
use Rattle.std.specs.Prelude.{if◌then◌else◌}
use Rattle.std.proofs.lemmas.List.{append-nil}
use Rattle.mlr_event.specs.declared.names.InputName.{InputName}
use Rattle.mlr_world.specs.Taken.{Take}
use Rattle.read_files.specs.Takes.{ends, total}
use Rattle.read_files.specs.Represents.{AllRead}
use Rattle.left_files.specs.Represents.{open_bytes}

either-most : (ended : Bool) (n : ℕ) → (if ended then 0 else n) ≤ n
either-most true n = omega arith
either-most false n = omega arith

-- at most all that was taken
pub open-most : (takes : List Take) → open_bytes takes ≤ total takes
open-most [] = omega arith
open-most (t ∷ []) = omega (arith, either-most t.ended (length t.bytes))
open-most (t ∷ u ∷ takes) = omega (arith, open-most (u ∷ takes))

-- nothing, where all were read to their ends
pub open-read : (names : List InputName) (done : List Take) → AllRead names done → open_bytes done ≡ 0
open-read [] [] read = refl
open-read [] (t ∷ done) read = absurd read
open-read (name ∷ names) [] read = absurd read
open-read (name ∷ names) (t ∷ []) read = ap {B = ℕ} (λ ended. if ended then 0 else length t.bytes) read.1
open-read (name ∷ []) (t ∷ u ∷ done) read = absurd read.2
open-read (name ∷ next ∷ names) (t ∷ u ∷ done) read = open-read (next ∷ names) (u ∷ done) read.2

-- and what comes after these counts alone
open-next : (t : Take) (done : List Take) (u : Take) (takes : List Take) → open_bytes (t ∷ done ++ u ∷ takes) ≡ open_bytes (done ++ u ∷ takes)
open-next t [] u takes = refl
open-next t (v ∷ done) u takes = refl

pub open-following : (done : List Take) (u : Take) (takes : List Take) → open_bytes (done ++ u ∷ takes) ≡ open_bytes (u ∷ takes)
open-following [] u takes = refl
open-following (t ∷ done) u takes = open-next t done u takes ∙ open-following done u takes

pub open-after : (names : List InputName) (done takes : List Take) → AllRead names done → open_bytes (done ++ takes) ≤ total takes
open-after names done [] read = omega (arith, ap open_bytes (append-nil done), open-read names done read)
open-after names done (u ∷ takes) read = omega (arith, open-following done u takes, open-most (u ∷ takes))

-- a file that hasn't ended counts whole
pub open-unended : (done : List Take) (u : Take) → ends (u ∷ []) ≡ 0 → open_bytes (done ++ u ∷ []) ≡ length u.bytes
open-unended done u unended = open-following done u [] ∙ of u.ended (length u.bytes) unended
  where
    of : (ended : Bool) (n : ℕ) → (if ended then 1 else 0) + 0 ≡ 0 → (if ended then 0 else n) ≡ n
    of true n none = absurd (omega (arith, none))
    of false n none = refl

-- one that has ended doesn't
pub open-ended : (done : List Take) (u : Take) → u.ended ≡ true → open_bytes (done ++ u ∷ []) ≡ 0
open-ended done u ended = open-following done u [] ∙ ap {B = ℕ} (λ b. if b then 0 else length u.bytes) ended
