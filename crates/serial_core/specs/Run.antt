-- What a run does, from its first turn to its outcome.
use Rattle.std.specs.Prelude.{◌≡◌, ℕ, ◌+◌, ◌<◌, ◌≤◌, ◌^◌, false, List, [], take, drop, Option, Some, IfSome}
use Rattle.mlr_event.specs.declared.names.Target.TheVariants.{Stdout}
use Rattle.mlr_event.specs.Verb.{is_open}
use Rattle.mlr_world.specs.Inputs.{Contents}
use Rattle.mlr_world.specs.Outputs.{Held, ChangesAt}
use Rattle.mlr_world.specs.Taken.{Take, OpenEntry}
use Rattle.read_files.specs.Takes.{After, InOrder, taken_by, total}
use Rattle.serial_core.specs.declared.answer.Ended.{Ended}
use Rattle.serial_core.specs.Meaning.{AreShort, Meaning, counted, text}
use Rattle.serial_core.specs.Represents.{Leaves, Says}
use Rattle.serial_core.specs.Whole.{OfWhole, whole_of}

-- Little was taken: of the main inputs nothing where the left files fix the result, and of all fewer than 65,536 bytes more than
-- fix it.
pub record StopsEarly (meaning : Meaning) (told : Contents) (given : List Take) : Type 0 where
  pub at_once : is_open (meaning.result (whole_of told (take meaning.lefts meaning.names))) ≡ false → drop meaning.lefts given ≡ []
  pub soon : (n : ℕ) → is_open (meaning.result (taken_by told meaning.names n)) ≡ false → total given < n + 65536

-- A run: what was taken, what the outcome says of that, and what standard output is left with; and the same by all that
-- the inputs hold.
pub record Run (ended : Ended) (meaning : Meaning) (contents : Option Contents) (taken taken' : Option (List Take)) (entry' : Option OpenEntry) (held held' : Option Held) : Type 0 where
  pub given : List Take
  pub order : InOrder meaning.names given
  pub following : After taken given contents taken' entry'
  pub few : counted meaning.lefts given ≤ 2 ^ 60
  pub says : Says ended meaning given
  pub leaves : ChangesAt Stdout (Leaves ended (text meaning given)) held held'
  pub early : IfSome contents (λ told. IfSome taken (λ _. StopsEarly meaning told given))
  pub whole : IfSome contents (λ told. IfSome taken (λ _. OfWhole ended meaning told held held'))

-- where contents and takes are known: each left file holds fewer than 2^60 bytes, and the main inputs do together
pub record HoldsFew (meaning : Meaning) (contents : Option Contents) (taken : Option (List Take)) : Type 0 where
  pub told : Contents
  pub contents_told : contents ≡ Some told
  pub before : List Take
  pub taken_told : taken ≡ Some before
  pub lefts : AreShort told (take meaning.lefts meaning.names)
  pub few : total (whole_of told (drop meaning.lefts meaning.names)) < 2 ^ 60
