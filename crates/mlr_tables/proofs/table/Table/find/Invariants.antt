use Rattle.std.proofs.Common.{◌-◌, ◌<◌, ◌≤◌, ◌≢◌, ℕ, length}
use Rattle.mlr_tables.proofs.Rows.{at}
use Rattle.mlr_tables.proofs.table.Table.find.Given as goal

-- the name isn't before the start, nor from the end on
abbrev pub invariant-loop-start : goal.invariant-loop-start
invariant-loop-start g l =
    (l.start ≤ l.end) × (l.end ≤ length l.self)
    × ((i : ℕ) → i < l.start → at l.self i ≢ l.name)
    × ((i : ℕ) → l.end ≤ i → i < length l.self → at l.self i ≢ l.name)

abbrev pub decreases-loop-start : goal.decreases-loop-start
decreases-loop-start g l = l.end - l.start
