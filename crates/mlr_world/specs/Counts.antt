-- How calls count faults and shortages of memory.
use Rattle.std.specs.Prelude.{◌≡◌, ℕ, ◌+◌, ◌-◌, ◌^◌, ◌≤◌, Bool, true, false, min}

-- a count rose by at least one, or is at its greatest value, 2^64 - 1
abbrev pub Rose : ℕ → ℕ → Type 0
Rose before now = min (before + 1) (2 ^ 64 - 1) ≤ now

-- One call on a name, with the counts of all names before and after it. If the call failed, the count of its
-- name rose and no count fell; otherwise all counts are unchanged.
abbrev pub Counted : {N : Type 0} → Bool → (N → ℕ) → (N → ℕ) → N → Type 0
Counted {N} true before now name = ((other : N) → before other ≤ now other) × Rose (before name) (now name)
Counted {N} false before now name = (other : N) → now other ≡ before other

-- the same for a single count
abbrev pub Tallied : Bool → ℕ → ℕ → Type 0
Tallied true before now = (before ≤ now) × Rose before now
Tallied false before now = now ≡ before
