use Rattle.std.proofs.Common.{◌≡◌, take}
use Rattle.writers.specs.declared.form.Part.TheVariants.{Keys}
use Rattle.writers.specs.Cells.{texts}
use Rattle.writers.proofs.keys.put_keys.Given as goal

abbrev pub invariant-loop-place : goal.invariant-loop-place
invariant-loop-place l = l.keys.items ≡ texts Keys (take l.place l.fields)
