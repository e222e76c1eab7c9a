use Rattle.std.proofs.Common.{◌≡◌, ◌++◌, ℕ, List, drop, map}
use Rattle.mlr_event.specs.declared.names.Target.{Target}
use Rattle.mlr_event.specs.declared.names.Target.TheVariants.{Stderr}
use Rattle.mlr_world.specs.declared.outputs.Done.TheVariants.{Ok}
use Rattle.mlr_world.specs.Outputs.{ChangesAt}
use Rattle.cli_run.specs.Message.{Appends, with_values}
use Rattle.cli_run.proofs.message.write_texts.Given as goal

-- what was written so far, with the remaining texts and values, is all, and no call failed
abbrev pub invariant-loop-place : goal.invariant-loop-place
invariant-loop-place g l =
    let texts = map (λ text. text.now) l.texts in
    let values = map (λ value. value.now) l.values in record {
      bytes :
          (written : List ℕ) × (written ++ with_values (drop l.place texts) (drop l.place values) ≡ with_values texts values)
          × ChangesAt Stderr (Appends written Ok) (g.O.Outputs.held l.initial.outputs) (g.O.Outputs.held l.outputs);
      counts : (target : Target) → g.O.Outputs.faults l.outputs target ≡ g.O.Outputs.faults l.initial.outputs target;
      memory : g.O.Outputs.shortages l.outputs ≡ g.O.Outputs.shortages l.initial.outputs;
    }
