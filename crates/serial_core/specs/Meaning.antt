-- What a run means.
use Rattle.std.specs.Prelude.{ℕ, zero, suc, ◌<◌, ◌^◌, if◌then◌else◌, List, [], ◌∷◌, length, IfSome}
use Rattle.mlr_event.specs.declared.event.Event.{Event}
use Rattle.mlr_event.specs.declared.names.InputName.{InputName}
use Rattle.mlr_world.specs.Inputs.{Contents}
use Rattle.mlr_world.specs.Taken.{Take}
use Rattle.writers.specs.declared.options.WriteOpts.{WriteOpts}
use Rattle.outlet.specs.Out.{out_of}
use Rattle.read_files.specs.Takes.{total}
use Rattle.serial_core.specs.Command as command
use Rattle.serial_core.specs.Command.{Command}

-- The inputs in their order, of which the first so many are left files; what comes out of the last verb, by what was taken of
-- the inputs; and how records are written.
pub record Meaning : Type 0 where
  pub names : List InputName
  pub lefts : ℕ
  pub result : List Take → List Event
  pub write : WriteOpts

-- the text of standard output
abbrev pub text : Meaning → List Take → List ℕ
text meaning takes = out_of meaning.write (meaning.result takes)

-- what a command without left files means
abbrev pub meaning_of : Command → Meaning
meaning_of one = record { names = command.names_of one.origin; lefts = 0; result = command.result one; write = one.write }

-- How many bytes the limit of a run counts: those of the left file that is being read, and after the left files those of all
-- main inputs.
abbrev pub counted : ℕ → List Take → ℕ
counted zero given = total given
counted (suc lefts) [] = 0
counted (suc lefts) (take ∷ []) = if take.ended then 0 else length take.bytes
counted (suc lefts) (take ∷ next ∷ given) = counted lefts (next ∷ given)

-- each of these inputs holds fewer than 2^60 bytes, if it is there
abbrev pub AreShort : Contents → List InputName → Type 0
AreShort told [] = Unit {0}
AreShort told (name ∷ names) = IfSome (told name) (λ bytes. length bytes < 2 ^ 60) × AreShort told names
