use Rattle.std.proofs.Common.{◌≡◌, ◌++◌, drop}
use Rattle.mlr_groups.specs.Keys.{escaped}
use Rattle.mlr_groups.proofs.keys.append_each.Given as goal

-- the key so far with the rest of the text is the key of the whole text
abbrev pub invariant-loop-byte : goal.invariant-loop-byte
invariant-loop-byte l = l.key ++ escaped (drop l.byte-index l.text) ≡ l.fn.key ++ escaped l.text
