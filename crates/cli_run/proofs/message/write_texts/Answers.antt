use Rattle.std.proofs.Common.{◌++◌, ap, sym, ◌∙◌}
use Rattle.mlr_event.specs.declared.names.Target.TheVariants.{Stderr}
use Rattle.cli_run.proofs.Messages.{advanced, borrowed-next, stopped}
use Rattle.cli_run.proofs.message.write_texts.Goals as goal

pub returns-in-Failed-clause-bytes : goal.returns-in-Failed-clause-bytes
returns-in-Failed-clause-bytes g c =
    let w = c.loop-place.invariant.bytes in
    stopped w.0 _ _ _
    (sym w.1 ∙ ap (λ rest. w.0 ++ rest) (borrowed-next c.args.texts.now c.args.values.now c.loop-place.place _ c.value_after-value.result.now c.loop-place-test.true c.value_after-value.ensures.between c.value_after-value.ensures.last))
    Stderr (g.O.Outputs.held c.args.outputs.now) (g.O.Outputs.held c.loop-place.outputs) (g.O.Outputs.held c.write_both.new.outputs) w.2 c.in-Failed.ensures.bytes

pub returns-in-NoMemory-clause-bytes : goal.returns-in-NoMemory-clause-bytes
returns-in-NoMemory-clause-bytes g c =
    let w = c.loop-place.invariant.bytes in
    stopped w.0 _ _ _
    (sym w.1 ∙ ap (λ rest. w.0 ++ rest) (borrowed-next c.args.texts.now c.args.values.now c.loop-place.place _ c.value_after-value.result.now c.loop-place-test.true c.value_after-value.ensures.between c.value_after-value.ensures.last))
    Stderr (g.O.Outputs.held c.args.outputs.now) (g.O.Outputs.held c.loop-place.outputs) (g.O.Outputs.held c.write_both.new.outputs) w.2 c.in-NoMemory.ensures.bytes

pub loop-place-preserved : goal.loop-place-preserved
loop-place-preserved g c =
    let w = c.loop-place.invariant.bytes in
    let next = borrowed-next c.args.texts.now c.args.values.now c.loop-place.place _ c.value_after-value.result.now c.loop-place-test.true c.value_after-value.ensures.between c.value_after-value.ensures.last in record {
      bytes = advanced w.0 _ _ _ _ w.1 next Stderr (g.O.Outputs.held c.args.outputs.now) (g.O.Outputs.held c.loop-place.outputs) (g.O.Outputs.held c.write_both.new.outputs) w.2 c.in-Ok.ensures.bytes;
      counts = λ target. c.in-Ok.ensures.counts target ∙ c.loop-place.invariant.counts target;
      memory = c.in-Ok.ensures.memory ∙ c.loop-place.invariant.memory;
    }
