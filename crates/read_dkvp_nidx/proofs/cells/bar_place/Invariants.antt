use Rattle.std.proofs.Common.{◌≡◌, drop}
use Rattle.read_dkvp_nidx.specs.Cells.{bar_from}
use Rattle.read_dkvp_nidx.proofs.cells.bar_place.Given as goal

abbrev pub invariant-loop-place : goal.invariant-loop-place
invariant-loop-place l = bar_from l.place l.last (drop l.place l.text) ≡ bar_from 0 124 l.text
