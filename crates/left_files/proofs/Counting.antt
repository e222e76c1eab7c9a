-- Counts after calls that changed none.
use Rattle.std.proofs.Common.{◌≡◌, ℕ, ◌∙◌, arith}
use Rattle.mlr_event.specs.declared.names.InputName.{InputName}
use Rattle.left_files.specs.declared.reader.LeftTurn.{LeftTurn}
use Rattle.left_files.specs.declared.reader.LeftTurn.TheVariants.{Went, Ended, Faulted, Failed, TooLong, NoMemory}
use Rattle.left_files.specs.Represents.{TurnCause}

pub cause-from : (turn : LeftTurn) (f0 f1 f2 : InputName → ℕ) → ((name : InputName) → f1 name ≡ f0 name) → TurnCause turn f1 f2 → TurnCause turn f0 f2
cause-from Went f0 f1 f2 same cause = λ name. cause name ∙ same name
cause-from (Ended lefts) f0 f1 f2 same cause = λ name. cause name ∙ same name
cause-from (Faulted fault) f0 f1 f2 same cause = λ name. cause name ∙ same name
cause-from (Failed name) f0 f1 f2 same cause = (λ other. omega (arith, same other, cause.0 other), omega (arith, same name, cause.1))
cause-from TooLong f0 f1 f2 same cause = λ name. cause name ∙ same name
cause-from NoMemory f0 f1 f2 same cause = λ name. cause name ∙ same name
