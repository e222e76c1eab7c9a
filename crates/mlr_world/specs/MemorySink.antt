-- The state of the outputs in memory that contracts see.
use Rattle.std.specs.Prelude.{ℕ, List, [], ◌∷◌, ◌++◌, Option}
use Rattle.mlr_event.specs.declared.names.Target.{Target}
use Rattle.mlr_event.specs.declared.names.Target.TheVariants.{Stdout, Stderr}
use Rattle.mlr_world.specs.Calls.{Calls, calls_of}
use Rattle.mlr_world.specs.MemoryTexts.{same_target, first_at}

pub record Sink : Type 0 where
  -- the targets with their bytes; the first entry of a target counts
  pub held : List (Target × List ℕ)
  -- how many bytes writes may still append, over all targets
  pub room : ℕ
  pub calls : Calls
  pub faults : ℕ
  pub shortages : ℕ

-- standard output and standard error are empty unless they are given
abbrev pub with_streams : List (Target × List ℕ) → List (Target × List ℕ)
with_streams given = given ++ (Stdout, []) ∷ (Stderr, []) ∷ []

-- the state before the first call
abbrev pub sink_of : List (Target × List ℕ) → ℕ → List ℕ → Sink
sink_of given room failing =
    record { held = with_streams given; room = room; calls = calls_of failing; faults = 0; shortages = 0 }

-- the state of the outputs that never fail, and the one before the first call
pub record SureSink : Type 0 where
  pub held : List (Target × List ℕ)
  pub shortages : ℕ

abbrev pub sure_sink_of : List (Target × List ℕ) → SureSink
sure_sink_of given = record { held = with_streams given; shortages = 0 }

-- the bytes of a target
abbrev pub held_at : List (Target × List ℕ) → Target → Option (List ℕ)
held_at held target = first_at (λ entry. same_target entry.0 target) (λ entry. entry.1) held
