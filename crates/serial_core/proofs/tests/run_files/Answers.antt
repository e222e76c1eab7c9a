use Rattle.std.proofs.Common.{[], ◌∷◌, refl}
use Rattle.serial_core.specs.Command.{Command, Origin, files}
use Rattle.serial_core.proofs.tests.run_files.Goals as goal

pub run-requires : goal.run-requires
run-requires g c =
    let origin : Origin = files c.in_ok-opts.opts c.loop-name.names.items in
    let command : Command = record { origin = origin; verbs = g.S.Step.verb c.args.verb ∷ []; write = c.in_ok-write.write } in
    (command, c.in_ok-serial.ensures origin (c.in_ok-new.ensures, refl))
