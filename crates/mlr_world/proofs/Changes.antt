-- Two changes of one target, one after the other.
use Rattle.std.proofs.Common.{◌≡◌, ℕ, List, [], ◌++◌, Option, Some, None, refl, ap, sym, ◌∙◌, append_assoc}
use Rattle.std.proofs.lemmas.List.{append-nil}
use Rattle.mlr_event.specs.declared.names.Target.{Target}
use Rattle.mlr_world.specs.Outputs.{Held, ChangesAt, with_bytes}

-- a change that leaves the target as it is
pub ChangesAt-none : (target : Target) (step : Option (List ℕ) → Option (List ℕ) → Type 0) → ((before : Option (List ℕ)) → step before before) → (held : Option Held) → ChangesAt target step held held
ChangesAt-none target step same None = tt
ChangesAt-none target step same (Some held) = record { here = same (held target); elsewhere = λ other apart. refl }

-- two changes make one
pub ChangesAt-then : (target : Target) (first second both : Option (List ℕ) → Option (List ℕ) → Type 0)
    → ((a b c : Option (List ℕ)) → first a b → second b c → both a c)
    → (before now later : Option Held) → ChangesAt target first before now → ChangesAt target second now later → ChangesAt target both before later
ChangesAt-then target first second both join None None None a b = tt
ChangesAt-then target first second both join None None (Some later) a b = b
ChangesAt-then target first second both join None (Some now) later a b = absurd a
ChangesAt-then target first second both join (Some before) None later a b = absurd a
ChangesAt-then target first second both join (Some before) (Some now) None a b = b
ChangesAt-then target first second both join (Some before) (Some now) (Some later) a b = record {
  here = join (before target) (now target) (later target) a.here b.here;
  elsewhere = λ other apart. b.elsewhere other apart ∙ a.elsewhere other apart;
}

pub with_bytes-none : (before : Option (List ℕ)) → before ≡ with_bytes [] before
with_bytes-none None = refl
with_bytes-none (Some held) = ap Some (sym (append-nil held))

pub with_bytes-twice : (first second : List ℕ) (before : Option (List ℕ)) → with_bytes second (with_bytes first before) ≡ with_bytes (first ++ second) before
with_bytes-twice first second None = refl
with_bytes-twice first second (Some held) = ap Some (append_assoc held first second)

-- a change that implies another
pub ChangesAt-map : (target : Target) (first second : Option (List ℕ) → Option (List ℕ) → Type 0) → ((before now : Option (List ℕ)) → first before now → second before now)
    → (before now : Option Held) → ChangesAt target first before now → ChangesAt target second before now
ChangesAt-map target first second weaken None None a = tt
ChangesAt-map target first second weaken None (Some now) a = a
ChangesAt-map target first second weaken (Some before) None a = a
ChangesAt-map target first second weaken (Some before) (Some now) a = record { here = weaken (before target) (now target) a.here; elsewhere = a.elsewhere }
