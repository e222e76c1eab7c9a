-- The calls on an object in memory: which of them fail, and how many bytes a read may take.
use Rattle.std.specs.Prelude.{ℕ, ◌+◌, ◌-◌, ◌^◌, ◌==◌, Bool, List, [], ◌∷◌, min, max, drop}
use Rattle.std.specs.List.{list_any}
use Rattle.mlr_world.specs.declared.inputs.Got.{Got}
use Rattle.mlr_world.specs.declared.inputs.Got.TheVariants as got

pub record Calls : Type 0 where
  -- the numbers, from 1, of the calls that fail
  pub failing : List ℕ
  -- how many calls were made
  pub made : ℕ

-- before the first call
abbrev pub calls_of : List ℕ → Calls
calls_of failing = record { failing = failing; made = 0 }

-- the number of the next call; it stays at 2^64 - 1
abbrev pub next_call : Calls → ℕ
next_call calls = min (calls.made + 1) (2 ^ 64 - 1)

-- whether the next call fails
abbrev pub next_fails : Calls → Bool
next_fails calls = list_any (λ number. number == next_call calls) calls.failing

-- after the next call
abbrev pub called : Calls → Calls
called calls = record { failing = calls.failing; made = next_call calls }

-- The most bytes that the next read takes, by the sizes of the pieces to come. Past the last size its own limit
-- alone counts, and a size of 0 counts as 1.
abbrev pub limit_of : List ℕ → ℕ → ℕ
limit_of [] most = most
limit_of (size ∷ sizes) most = min most (max size 1)

-- the sizes that remain after a read: only one that took bytes uses a size
abbrev pub sizes_after : Got → List ℕ → List ℕ
sizes_after (got.Some n) sizes = drop 1 sizes
sizes_after got.End sizes = sizes
sizes_after got.Failed sizes = sizes
sizes_after got.NoMemory sizes = sizes
