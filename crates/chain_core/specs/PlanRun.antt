-- What a run of a plan does.
use Rattle.std.specs.Prelude.{List, Option}
use Rattle.mlr_world.specs.Inputs.{Contents}
use Rattle.mlr_world.specs.Outputs.{Held}
use Rattle.mlr_world.specs.Taken.{Take, OpenEntry}
use Rattle.writers.specs.declared.options.WriteOpts.{WriteOpts}
use Rattle.serial_core.specs.declared.answer.Ended.{Ended}
use Rattle.serial_core.specs.Meaning.{Meaning}
use Rattle.serial_core.specs.Run.{Run}
use Rattle.chain_core.specs.Outputs.{LeavesEach, clear}

-- It is a run of what the plan means, and leaves each target with what it gets of the result.
pub record PlanRun (ended : Ended) (meaning : Meaning) (others : List WriteOpts) (contents : Option Contents) (taken taken' : Option (List Take)) (entry' : Option OpenEntry) (held held' : Option Held) : Type 0 where
  pub run : Run ended meaning contents taken taken' entry' held held'
  pub each : LeavesEach ended meaning.write others (clear (meaning.result run.given)) held held'
