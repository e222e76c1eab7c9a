use Rattle.std.proofs.Common.{ap, refl, sym, subst, ◌∙◌}
use Rattle.std.proofs.lemmas.Bool.{true≢false}
use Rattle.mlr_event.specs.declared.names.InputName.{InputName}
use Rattle.mlr_world.specs.Counts.{Rose}
use Rattle.mlr_world.specs.Outputs.{ChangesAt}
use Rattle.mlr_event.specs.declared.names.Target.TheVariants.{Stdout}
use Rattle.chain_core.proofs.Runs.{meaning-of}
use Rattle.serial_core.specs.declared.answer.Ended.TheVariants as answer
use Rattle.cli_plan.specs.declared.planned.Planned.TheVariants as planned
use Rattle.cli_run.specs.Run.{LeavesText, Ran}
use Rattle.cli_run.proofs.Answering.{never-refused, ran-none, ran-plan, ran-said}
use Rattle.cli_run.proofs.run.run_planned.Goals as goal

pub run_serial-requires : goal.run_serial-requires
run_serial-requires g c = c.requires c.in-Ok.plan c.in-Ok.is

pub returns-in-Ok-clause-untouched : goal.returns-in-Ok-clause-untouched
returns-in-Ok-clause-untouched g c = λ refused.
    let found = meaning-of c.in-Ok.plan (c.requires c.in-Ok.plan c.in-Ok.is) in
    let ran = c.run_serial.ensures.run found.0 found.1 in
    absurd (true≢false (sym refused ∙ never-refused c.run_serial.result found.0 ran.run.given ran.run.says))

pub returns-in-Ok-clause-run : goal.returns-in-Ok-clause-run
returns-in-Ok-clause-run g c =
    let found = meaning-of c.in-Ok.plan (c.requires c.in-Ok.plan c.in-Ok.is) in
    let quiet = (name : InputName) → Rose (g.I.Inputs.faults c.args.inputs.now name) (g.I.Inputs.faults c.run_serial.new.inputs name) → ⊥ in
    let contents = g.I.Inputs.contents c.args.inputs.now in
    let taken = g.I.Inputs.taken c.args.inputs.now in
    let taken' = g.I.Inputs.taken c.run_serial.new.inputs in
    let held = g.O.Outputs.held c.args.outputs.now in
    let held' = g.O.Outputs.held c.run_serial.new.outputs in
    subst (λ come. Ran come c.run_serial.result quiet contents taken taken' held held') (sym c.in-Ok.is)
    (ran-plan c.in-Ok.plan found.0 found.1 c.run_serial.result quiet contents taken taken' (g.I.Inputs.open_entry c.run_serial.new.inputs) held held'
    (c.run_serial.ensures.run found.0 found.1) (c.run_serial.ensures.completes found.0 found.1))

pub returns-in-Say-clause-run : goal.returns-in-Say-clause-run
returns-in-Say-clause-run g c =
    let quiet = (name : InputName) → Rose (g.I.Inputs.faults c.args.inputs.now name) (g.I.Inputs.faults c.args.inputs.now name) → ⊥ in
    let contents = g.I.Inputs.contents c.args.inputs.now in
    let taken = g.I.Inputs.taken c.args.inputs.now in
    let held = g.O.Outputs.held c.args.outputs.now in
    let held' = g.O.Outputs.held c.say.new.outputs in
    subst (λ come. Ran come c.say.result quiet contents taken taken held held') (sym c.in-Say.is)
    (ran-said c.in-Say.text c.say.result quiet c.say.ensures.answers contents taken (g.I.Inputs.open_entry c.args.inputs.now) held held'
    (subst (λ text. ChangesAt Stdout (LeavesText text c.say.result Stdout) held held') c.as_slice.ensures c.say.ensures.leaves))

pub returns-in-Refused-clause-run : goal.returns-in-Refused-clause-run
returns-in-Refused-clause-run g c =
    let quiet = (name : InputName) → Rose (g.I.Inputs.faults c.args.inputs.now name) (g.I.Inputs.faults c.args.inputs.now name) → ⊥ in
    let contents = g.I.Inputs.contents c.args.inputs.now in
    let taken = g.I.Inputs.taken c.args.inputs.now in
    let held = g.O.Outputs.held c.args.outputs.now in
    subst (λ come. Ran come (answer.Refused c.copy_of.result) quiet contents taken taken held held) (sym c.in-Refused.is)
    (ran-none (planned.Refused c.in-Refused.refusal) (answer.Refused c.copy_of.result) quiet (ap answer.Refused c.copy_of.ensures) tt (λ one before. refl)
    contents taken (g.I.Inputs.open_entry c.args.inputs.now) held)

pub returns-in-NoMemory-clause-run : goal.returns-in-NoMemory-clause-run
returns-in-NoMemory-clause-run g c =
    let quiet = (name : InputName) → Rose (g.I.Inputs.faults c.args.inputs.now name) (g.I.Inputs.faults c.args.inputs.now name) → ⊥ in
    let contents = g.I.Inputs.contents c.args.inputs.now in
    let taken = g.I.Inputs.taken c.args.inputs.now in
    let held = g.O.Outputs.held c.args.outputs.now in
    subst (λ come. Ran come answer.NoMemory quiet contents taken taken held held) (sym c.in-NoMemory.is)
    (ran-none planned.NoMemory answer.NoMemory quiet refl tt (λ one before. refl) contents taken (g.I.Inputs.open_entry c.args.inputs.now) held)
