-- The names of steppers.
use Rattle.std.specs.Prelude.{ℕ, List, codes, if◌then◌else◌, Option, Some, None}
use Rattle.std.specs.Str.{bytes_eq}
use Rattle.stat_base.specs.declared.stepper.Stepper.{Stepper}
use Rattle.stat_base.specs.declared.stepper.Stepper.TheVariants.{Shift, Delta, Rsum, Counter}

-- the name of each
abbrev pub name_of : Stepper → List ℕ
name_of Shift = codes "shift"
name_of Delta = codes "delta"
name_of Rsum = codes "rsum"
name_of Counter = codes "counter"

-- the stepper of a name
abbrev pub stepper_named : List ℕ → Option Stepper
stepper_named name =
    if bytes_eq name (name_of Shift) then Some Shift
    else if bytes_eq name (name_of Delta) then Some Delta
    else if bytes_eq name (name_of Rsum) then Some Rsum
    else if bytes_eq name (name_of Counter) then Some Counter
    else None
