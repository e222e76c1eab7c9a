use Rattle.std.proofs.Common.{◌≡◌, ◌++◌, drop}
use Rattle.std.specs.List.{flat_map}
use Rattle.writers.proofs.escape.append_each.Given as goal

abbrev pub invariant-loop-byte : goal.invariant-loop-byte
invariant-loop-byte g l = l.out ++ flat_map g.E.Escape.escaped (drop l.byte-index l.text) ≡ l.initial.out ++ flat_map g.E.Escape.escaped l.text
