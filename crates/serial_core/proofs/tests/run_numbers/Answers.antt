use Rattle.std.proofs.Common.{refl}
use Rattle.serial_core.specs.Command.{numbers}
use Rattle.serial_core.proofs.tests.run_numbers.Goals as goal

pub run-requires : goal.run-requires
run-requires c = (_, c.in_ok-serial.ensures (numbers _) (0, c.if-not-is_sound.ensures.0 refl, c.in_ok-new.ensures, refl, refl))
