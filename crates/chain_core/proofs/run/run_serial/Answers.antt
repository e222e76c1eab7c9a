use Rattle.std.proofs.Common.{refl, sym, subst}
use Rattle.mlr_event.specs.declared.names.Target.TheVariants.{Stdout}
use Rattle.mlr_world.specs.Counts.{Counted, Rose}
use Rattle.outlet.specs.Represents.{CountedIf}
use Rattle.serial_core.specs.Answer.{IsOfNoInput, has_failed, lacks_memory}
use Rattle.serial_core.specs.declared.answer.Ended.TheVariants.{NoMemory}
use Rattle.serial_core.specs.Meaning.{meaning_of}
use Rattle.serial_core.specs.Run.{HoldsFew, Run}
use Rattle.serial_core.specs.Represents.{InputCause}
use Rattle.chain_core.specs.PlanRun.{PlanRun}
use Rattle.chain_core.proofs.Each.{plain-run}
use Rattle.chain_core.proofs.PlanLaws.{command_by, plan-plain}
use Rattle.chain_core.proofs.PlanRuns.{RunLaws, left-cause, left-completes, left-counts, left-ended, left-shortages, main-few, main-following}
use Rattle.chain_core.proofs.Runs.{unread}
use Rattle.chain_core.proofs.run.run_serial.Goals as goal

pub returns-in_default-clause-run : goal.returns-in_default-clause-run
returns-in_default-clause-run g c meaning is =
    let contents = g.I.Inputs.contents c.args.inputs.now in
    let taken = g.I.Inputs.taken c.args.inputs.now in
    let entry = g.I.Inputs.open_entry c.args.inputs.now in
    let held = g.O.Outputs.held c.args.outputs.now in
    plain-run meaning (plan-plain c.args.plan.now meaning is) is.rest NoMemory contents taken taken entry held held (unread meaning contents taken entry held)

pub returns-in-Ended-clause-run : goal.returns-in-Ended-clause-run
returns-in-Ended-clause-run g c meaning is =
    let laws : RunLaws = record {
      lists = c.source_laws.ensures.list;
      grows = c.source_laws.ensures.grows;
      fixed = c.source_laws.ensures.fixed;
      early = c.source_laws.ensures.early;
      all = c.source_laws.ensures.all;
      growth = c.chain_laws.ensures.growth;
      texts = c.outlet_laws.ensures;
      lefts_fixed = c.left_laws.ensures.fixed;
      lefts_read = c.left_laws.ensures.read;
    } in
    let plan = c.args.plan.now in
    let taken' = g.I.Inputs.taken c.read_all.new.inputs in
    let taken'' = g.I.Inputs.taken c.run_main.new.inputs in
    let entry'' = g.I.Inputs.open_entry c.run_main.new.inputs in
    let held' = g.O.Outputs.held c.run_main.new.outputs in
    let command = command_by plan is.write c.in-Ended.held.items in
    let run = c.run_main.ensures.run command (record { origin = refl; verbs = refl; rest = is.rest; write = is.styles_are }) in
    main-following laws c.args.plan.now meaning is (g.I.Inputs.contents c.args.inputs.now) (g.I.Inputs.taken c.args.inputs.now) (g.I.Inputs.taken c.read_all.new.inputs) (g.I.Inputs.open_entry c.read_all.new.inputs) c.in-Ended.held
    (c.in-Ended.ensures.read plan c.in-Ok.ensures) c.run_main.result taken'' entry'' (g.O.Outputs.held c.args.outputs.now) held'
    (subst (λ told. Run c.run_main.result (meaning_of command) told taken' taken'' entry'' (g.O.Outputs.held c.args.outputs.now) held') c.read_all.ensures.contents run)

pub returns-in-Ended-clause-completes : goal.returns-in-Ended-clause-completes
returns-in-Ended-clause-completes g c meaning is holds quiet =
    let laws : RunLaws = record {
      lists = c.source_laws.ensures.list;
      grows = c.source_laws.ensures.grows;
      fixed = c.source_laws.ensures.fixed;
      early = c.source_laws.ensures.early;
      all = c.source_laws.ensures.all;
      growth = c.chain_laws.ensures.growth;
      texts = c.outlet_laws.ensures;
      lefts_fixed = c.left_laws.ensures.fixed;
      lefts_read = c.left_laws.ensures.read;
    } in
    let plan = c.args.plan.now in
    let taken' = g.I.Inputs.taken c.read_all.new.inputs in
    let command = command_by plan is.write c.in-Ended.held.items in
    let few = main-few laws c.args.plan.now meaning is (g.I.Inputs.contents c.args.inputs.now) (g.I.Inputs.taken c.args.inputs.now) (g.I.Inputs.taken c.read_all.new.inputs) (g.I.Inputs.open_entry c.read_all.new.inputs) c.in-Ended.held (c.in-Ended.ensures.read plan c.in-Ok.ensures) holds in
    c.run_main.ensures.completes command (record { origin = refl; verbs = refl; rest = is.rest; write = is.styles_are })
    (subst (λ told. HoldsFew (meaning_of command) told taken') (sym c.read_all.ensures.contents) few)
    (λ name. subst (λ n. Rose n (g.I.Inputs.faults c.run_main.new.inputs name) → ⊥) (sym (c.in-Ended.ensures.cause name)) (quiet name))

pub returns-clause-run : goal.returns-clause-run
returns-clause-run g c meaning is =
    let laws : RunLaws = record {
      lists = c.source_laws.ensures.list;
      grows = c.source_laws.ensures.grows;
      fixed = c.source_laws.ensures.fixed;
      early = c.source_laws.ensures.early;
      all = c.source_laws.ensures.all;
      growth = c.chain_laws.ensures.growth;
      texts = c.outlet_laws.ensures;
      lefts_fixed = c.left_laws.ensures.fixed;
      lefts_read = c.left_laws.ensures.read;
    } in
    let contents = g.I.Inputs.contents c.args.inputs.now in
    let taken = g.I.Inputs.taken c.args.inputs.now in
    let taken' = g.I.Inputs.taken c.read_all.new.inputs in
    let entry' = g.I.Inputs.open_entry c.read_all.new.inputs in
    let held = g.O.Outputs.held c.args.outputs.now in
    subst (λ ended. PlanRun ended meaning is.rest contents taken taken' entry' held held) (sym c.outcome_of.ensures)
    (left-ended laws c.args.plan.now meaning is contents taken taken' entry' c.read_all.result (c.read_all.ensures.read c.args.plan.now c.in-Ok.ensures) held)

pub returns-clause-cause : goal.returns-clause-cause
returns-clause-cause g c =
    let before = g.I.Inputs.faults c.args.inputs.now in
    let now = g.I.Inputs.faults c.read_all.new.inputs in
    subst (λ ended. InputCause ended before now) (sym c.outcome_of.ensures) (left-cause c.read_all.result before now c.read_all.ensures.cause)

pub returns-clause-counts : goal.returns-clause-counts
returns-clause-counts g c =
    let faults = g.O.Outputs.faults c.args.outputs.now in
    subst (λ ended. Counted (has_failed ended) faults faults Stdout) (sym c.outcome_of.ensures) (left-counts c.read_all.result faults)

pub returns-clause-shortages : goal.returns-clause-shortages
returns-clause-shortages g c =
    let shortages = g.O.Outputs.shortages c.args.outputs.now in
    subst (λ ended. CountedIf (lacks_memory ended) shortages shortages) (sym c.outcome_of.ensures) (left-shortages c.read_all.result shortages)

pub returns-clause-completes : goal.returns-clause-completes
returns-clause-completes g c meaning is holds quiet =
    let laws : RunLaws = record {
      lists = c.source_laws.ensures.list;
      grows = c.source_laws.ensures.grows;
      fixed = c.source_laws.ensures.fixed;
      early = c.source_laws.ensures.early;
      all = c.source_laws.ensures.all;
      growth = c.chain_laws.ensures.growth;
      texts = c.outlet_laws.ensures;
      lefts_fixed = c.left_laws.ensures.fixed;
      lefts_read = c.left_laws.ensures.read;
    } in
    let contents = g.I.Inputs.contents c.args.inputs.now in
    let taken = g.I.Inputs.taken c.args.inputs.now in
    let taken' = g.I.Inputs.taken c.read_all.new.inputs in
    let entry' = g.I.Inputs.open_entry c.read_all.new.inputs in
    subst IsOfNoInput (sym c.outcome_of.ensures)
    (left-completes laws c.args.plan.now meaning is contents taken taken' entry' c.read_all.result (g.I.Inputs.faults c.args.inputs.now) (g.I.Inputs.faults c.read_all.new.inputs)
    (c.read_all.ensures.read c.args.plan.now c.in-Ok.ensures) c.read_all.ensures.cause holds quiet)
