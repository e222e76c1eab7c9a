use Rattle.std.proofs.Common.{◌≡◌}
use Rattle.read_csv.specs.Rows.{positions_from}
use Rattle.read_csv.proofs.records.positions.Given as goal

abbrev pub invariant-loop-place : goal.invariant-loop-place
invariant-loop-place l = l.made.items ≡ positions_from 1 l.place
