-- What was put is written.
use Rattle.std.proofs.Common.{◌≡◌, ℕ, List, [], ◌++◌, Option, Some, None, refl, ap, sym, ◌∙◌, subst}
use Rattle.mlr_event.specs.declared.event.Event.{Event}
use Rattle.mlr_event.specs.declared.fault.Fault.{Fault}
use Rattle.mlr_event.specs.declared.names.Target.TheVariants.{Stdout}
use Rattle.mlr_world.specs.Outputs.{Held, ChangesAt, WriteLeaves}
use Rattle.mlr_world.specs.declared.outputs.Done.TheVariants as done
use Rattle.mlr_world.proofs.Changes.{ChangesAt-map, ChangesAt-none, with_bytes-none}
use Rattle.writers.specs.declared.options.WriteOpts.{WriteOpts}
use Rattle.writers.proofs.Growing.{written-append}
use Rattle.outlet.specs.declared.outlet.Let.{Let}
use Rattle.outlet.specs.declared.outlet.Let.TheVariants.{Went, Over, Failed, NoMemory}
use Rattle.outlet.specs.declared.outlet.Outlet.{Outlet}
use Rattle.outlet.specs.Represents.{LetLeaves, LetSays, AppendsPrefix, Represents, Took}
use Rattle.outlet.specs.PendingText.{OutcomeFor, IsAt, Appends, let_of}
use Rattle.outlet.proofs.Growing.{out-grows}

-- nothing was written
pub nothing-put : (text : List ℕ) (before now : Option (List ℕ)) → now ≡ before → AppendsPrefix text before now
nothing-put text before now same = ([], (text, refl), same ∙ with_bytes-none before)

pub unwritten : (text : List ℕ) (held : Option Held) → ChangesAt Stdout (AppendsPrefix text) held held
unwritten text held = ChangesAt-none Stdout (AppendsPrefix text) (λ before. nothing-put text before before refl) held

-- an empty text is written by no call
pub empty-leaves : (over : Option (Option Fault)) (text : List ℕ) (held : Option Held) → text ≡ [] → ChangesAt Stdout (LetLeaves (let_of over) text) held held
empty-leaves None text held is = subst (λ t. ChangesAt Stdout (LetLeaves Went t) held held) (sym is) (ChangesAt-none Stdout (LetLeaves Went []) with_bytes-none held)
empty-leaves (Some fault) text held is = subst (λ t. ChangesAt Stdout (LetLeaves (Over fault) t) held held) (sym is) (ChangesAt-none Stdout (LetLeaves (Over fault) []) with_bytes-none held)

-- what a call leaves
pub ok-leaves : (over : Option (Option Fault)) (text : List ℕ) (held held' : Option Held) → ChangesAt Stdout (WriteLeaves text done.Ok) held held' → ChangesAt Stdout (LetLeaves (let_of over) text) held held'
ok-leaves None text held held' left = ChangesAt-map Stdout (WriteLeaves text done.Ok) (LetLeaves Went text) (λ before now is. is.0) held held' left
ok-leaves (Some fault) text held held' left = ChangesAt-map Stdout (WriteLeaves text done.Ok) (LetLeaves (Over fault) text) (λ before now is. is.0) held held' left

pub short-leaves : (text : List ℕ) (held held' : Option Held) → ChangesAt Stdout (WriteLeaves text done.NoMemory) held held' → ChangesAt Stdout (LetLeaves NoMemory text) held held'
short-leaves text held held' left = ChangesAt-map Stdout (WriteLeaves text done.NoMemory) (LetLeaves NoMemory text) (nothing-put text) held held' left

pub outcome-over : (over : Option (Option Fault)) → OutcomeFor over (let_of over)
outcome-over None = refl
outcome-over (Some fault) = refl

-- what it returns of what was appended
says-of : (over : Option (Option Fault)) (answer : Let) (events : List Event) → OutcomeFor over answer → LetSays (let_of over) events → LetSays answer events
says-of over Went events is says = subst (λ o. LetSays (let_of o) events) is says
says-of over (Over fault) events is says = subst (λ o. LetSays (let_of o) events) is says
says-of over (Failed target) events is says = is
says-of over NoMemory events is says = tt

pub represents-at : (opts : WriteOpts) (before : List Event) (outlet : Outlet) → Represents opts before outlet → IsAt opts before outlet
represents-at opts before outlet represents = record { clear = represents.clear; represents = represents.represents; writes = represents.writes }

module _ (opts : WriteOpts) (before events : List Event) (outlet : Outlet) (stood : Represents opts before outlet) where
  pub took : (over : Option (Option Fault)) (put : Outlet) (answer : Let) (held held' : Option Held) → Appends over opts before events outlet put → OutcomeFor over answer → ChangesAt Stdout (LetLeaves answer put.text) held held'
      → Took answer opts before events held held'
  took over put answer held held' appends is left = record {
    says = says-of over answer (before ++ events) is appends.says;
    more = appends.adds.0;
    text = appends.adds.1;
    leaves = subst (λ t. ChangesAt Stdout (LetLeaves answer t) held held') (appends.adds.2 ∙ ap (λ t. t ++ appends.adds.0) stood.text) left;
  }

  -- there was no memory for what was to be put
  pub took-none : (held : Option Held) → Took NoMemory opts before events held held
  took-none held =
      let grown = out-grows (λ opts bodies following ended. (_, written-append opts bodies following ended)) opts before events stood.clear in
      record { says = tt; more = grown.0; text = grown.1; leaves = unwritten grown.0 held }

  pub represents-following : (over : Option (Option Fault)) (put now : Outlet) (answer : Let) → Appends over opts before events outlet put → OutcomeFor over answer → answer ≡ Went → now ≡ record put { text = [] } → Represents opts (before ++ events) now
  represents-following over put now answer appends is went same =
      let at = appends.more (subst (OutcomeFor over) went is) in
      subst (Represents opts (before ++ events)) (sym same) (record { clear = at.clear; represents = at.represents; writes = at.writes; text = refl })
