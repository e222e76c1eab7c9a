-- Which records and texts a writer represents.
use Rattle.std.specs.Prelude.{◌≡◌, List}
use Rattle.mlr_event.specs.declared.event.Body.{Body}
use Rattle.writers.specs.declared.options.WriteOpts.{WriteOpts}
use Rattle.writers.specs.declared.state.State.{State}
use Rattle.writers.specs.declared.stage.Stage.TheVariants.{Open, Ended, Broken}
use Rattle.writers.specs.declared.writer.Writer.{Writer}
use Rattle.writers.specs.Running.{Run, run_after, start}

abbrev pub run_of : State → Run
run_of state = record { any = state.any; mid = state.mid; keys = state.keys.items; lines = state.block }

-- more may come, or the end
abbrev pub IsOpen : Writer → Type 0
IsOpen writer = writer.stage ≡ Open

-- the end has come
abbrev pub HasEnded : Writer → Type 0
HasEnded writer = writer.stage ≡ Ended

-- a call found no memory
abbrev pub IsBroken : Writer → Type 0
IsBroken writer = writer.stage ≡ Broken

-- it writes by these options, and these came so far
pub record Represents (opts : WriteOpts) (writer : Writer) (bodies : List Body) : Type 0 where
  pub options : writer.opts ≡ opts
  pub run : run_of writer.state ≡ run_after opts start bodies
