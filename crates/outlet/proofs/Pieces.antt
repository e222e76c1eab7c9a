-- A list is written in pieces.
use Rattle.std.proofs.Common.{◌≡◌, ℕ, true, List, [], ◌++◌, Option, Some, None, refl, ap, sym, ◌∙◌, subst, append_assoc}
use Rattle.std.proofs.lemmas.List.{append-nil}
use Rattle.mlr_event.specs.declared.event.Event.{Event}
use Rattle.mlr_event.specs.declared.fault.Fault.{Fault}
use Rattle.mlr_event.specs.declared.names.Target.TheVariants.{Stdout}
use Rattle.mlr_event.specs.Verb.{is_list, is_open}
use Rattle.mlr_world.specs.Outputs.{Held, ChangesAt}
use Rattle.mlr_world.proofs.Changes.{ChangesAt-map, ChangesAt-none, ChangesAt-then, with_bytes-none}
use Rattle.writers.specs.declared.options.WriteOpts.{WriteOpts}
use Rattle.writers.proofs.Growing.{written-append}
use Rattle.outlet.specs.declared.outlet.Let.{Let}
use Rattle.outlet.specs.declared.outlet.Let.TheVariants.{Went, Over, Failed, NoMemory}
use Rattle.outlet.specs.declared.outlet.Outlet.{Outlet}
use Rattle.outlet.specs.Out.{out_of}
use Rattle.outlet.specs.Represents.{AppendsPrefix, LetLeaves, LetSays, Represents, Took}
use Rattle.outlet.specs.PendingText.{AppendsSome, OutcomeFor}
use Rattle.outlet.proofs.Following.{leaves-following, prefix-longer}
use Rattle.outlet.proofs.Growing.{out-grows}
use Rattle.outlet.proofs.Writing.{represents-at, represents-following, took, took-none}

-- how far it has come with a list
pub record Wrote (first : Outlet) (events : List Event) (held : Option Held) (now : Outlet) (rest : List Event) (held' : Option Held) : Type 0 where
  pub taken : List Event
  pub all : events ≡ taken ++ rest
  pub represents : (opts : WriteOpts) (before : List Event) → Represents opts before first → is_list (before ++ events) ≡ true → Represents opts (before ++ taken) now
  pub took : (opts : WriteOpts) (before : List Event) → Represents opts before first → is_list (before ++ events) ≡ true → Took Went opts before taken held held'

pub none-wrote : (first : Outlet) (events : List Event) (held : Option Held) → Wrote first events held first events held
none-wrote first events held = record {
  taken = [];
  all = refl;
  represents = λ opts before stood list. subst (λ t. Represents opts t first) (sym (append-nil before)) stood;
  took = λ opts before stood list. record {
    says = subst (λ t. is_open t ≡ true) (sym (append-nil before)) stood.clear;
    more = [];
    text = ap (out_of opts) (append-nil before) ∙ sym (append-nil (out_of opts before));
    leaves = ChangesAt-none Stdout (LetLeaves Went []) with_bytes-none held;
  };
}

-- a call after one that went
took-then : (answer : Let) (opts : WriteOpts) (before one other : List Event) (held held' held'' : Option Held)
    → Took Went opts before one held held' → Took answer opts (before ++ one) other held' held'' → Took answer opts before (one ++ other) held held''
took-then answer opts before one other held held' held'' first second =
    let whole = append_assoc before one other in
    record {
      says = subst (LetSays answer) whole second.says;
      more = first.more ++ second.more;
      text = ap (out_of opts) (sym whole) ∙ second.text ∙ ap (λ t. t ++ second.more) first.text ∙ append_assoc (out_of opts before) first.more second.more;
      leaves =
          ChangesAt-then Stdout (LetLeaves Went first.more) (LetLeaves answer second.more) (LetLeaves answer (first.more ++ second.more))
          (leaves-following answer first.more second.more) held held' held'' first.leaves second.leaves;
    }

-- more events become a longer text
longer : (opts : WriteOpts) (before events more : List Event) → is_open (before ++ events) ≡ true
    → (grown : List ℕ) × (out_of opts (before ++ (events ++ more)) ≡ out_of opts (before ++ events) ++ grown)
longer opts before events more open_is =
    let grown = out-grows (λ opts bodies following ended. (_, written-append opts bodies following ended)) opts (before ++ events) more open_is in
    (grown.0, ap (out_of opts) (sym (append_assoc before events more)) ∙ grown.1)

-- a call that stopped wrote a prefix of what more events become, too
stopped-longer : (answer : Let) (opts : WriteOpts) (before events more : List Event) (held held' : Option Held) → (answer ≡ Went → ⊥) → ((fault : Option Fault) → answer ≡ Over fault → ⊥)
    → is_open (before ++ events) ≡ true → Took answer opts before events held held' → Took answer opts before (events ++ more) held held'
stopped-longer Went opts before events more held held' apart no-over open_is done = absurd (apart refl)
stopped-longer (Over fault) opts before events more held held' apart no-over open_is done = absurd (no-over fault refl)
stopped-longer (Failed target) opts before events more held held' apart no-over open_is done =
    let grown = longer opts before events more open_is in
    record {
      says = done.says;
      more = done.more ++ grown.0;
      text = grown.1 ∙ ap (λ t. t ++ grown.0) done.text ∙ append_assoc (out_of opts before) done.more grown.0;
      leaves = ChangesAt-map Stdout (AppendsPrefix done.more) (AppendsPrefix (done.more ++ grown.0)) (prefix-longer done.more grown.0) held held' done.leaves;
    }
stopped-longer NoMemory opts before events more held held' apart no-over open_is done =
    let grown = longer opts before events more open_is in
    record {
      says = tt;
      more = done.more ++ grown.0;
      text = grown.1 ∙ ap (λ t. t ++ grown.0) done.text ∙ append_assoc (out_of opts before) done.more grown.0;
      leaves = ChangesAt-map Stdout (AppendsPrefix done.more) (AppendsPrefix (done.more ++ grown.0)) (prefix-longer done.more grown.0) held held' done.leaves;
    }

module _ (first : Outlet) (events : List Event) (held : Option Held) (now : Outlet) (rest : List Event) (held' : Option Held) (so_far : Wrote first events held now rest held') where
  list-is : (before : List Event) → is_list (before ++ events) ≡ true → is_list ((before ++ so_far.taken) ++ rest) ≡ true
  list-is before list = ap is_list (append_assoc before so_far.taken rest ∙ ap (λ t. before ++ t) (sym so_far.all)) ∙ list

  -- no memory for what is to be put next
  pub lacks-memory : (opts : WriteOpts) (before : List Event) → Represents opts before first → is_list (before ++ events) ≡ true → Took NoMemory opts before events held held'
  lacks-memory opts before stood list =
      subst (λ t. Took NoMemory opts before t held held') (sym so_far.all)
      (took-then NoMemory opts before so_far.taken rest held held' held' (so_far.took opts before stood list)
      (took-none opts (before ++ so_far.taken) rest now (so_far.represents opts before stood list) held'))

  -- the next events were put, and a call wrote what they become
  module _ (over : Option (Option Fault)) (put : Outlet) (rest' : List Event) (some : AppendsSome over now rest put rest') (answer : Let) (held'' : Option Held)
      (is : OutcomeFor over answer) (left : ChangesAt Stdout (LetLeaves answer put.text) held' held'') where
    abbrev taken : List Event
    taken = so_far.taken ++ some.taken

    all-is : events ≡ taken ++ rest'
    all-is = so_far.all ∙ ap (λ t. so_far.taken ++ t) some.all ∙ sym (append_assoc so_far.taken some.taken rest')

    took-next : (opts : WriteOpts) (before : List Event) → Represents opts before first → is_list (before ++ events) ≡ true → Took answer opts (before ++ so_far.taken) some.taken held' held''
    took-next opts before stood list =
        let at = so_far.represents opts before stood list in
        took opts (before ++ so_far.taken) some.taken now at over put answer held' held''
        (some.appends opts (before ++ so_far.taken) (represents-at opts (before ++ so_far.taken) now at) (list-is before list)) is left

    took-both : (opts : WriteOpts) (before : List Event) → Represents opts before first → is_list (before ++ events) ≡ true → Took answer opts before taken held held''
    took-both opts before stood list =
        took-then answer opts before so_far.taken some.taken held held' held'' (so_far.took opts before stood list) (took-next opts before stood list)

    pub wrote-more : (later : Outlet) → answer ≡ Went → later ≡ record put { text = [] } → Wrote first events held later rest' held''
    wrote-more later went same = record {
      taken = taken;
      all = all-is;
      represents = λ opts before stood list.
          let at = so_far.represents opts before stood list in
          subst (λ t. Represents opts t later) (append_assoc before so_far.taken some.taken)
          (represents-following opts (before ++ so_far.taken) some.taken now at over put later answer
          (some.appends opts (before ++ so_far.taken) (represents-at opts (before ++ so_far.taken) now at) (list-is before list)) is went same);
      took = λ opts before stood list. subst (λ t. Took t opts before taken held held'') went (took-both opts before stood list);
    }

    -- where the last event was taken, all were
    none-left : (fault : Option Fault) → over ≡ Some fault → taken ≡ events
    none-left fault last = sym (all-is ∙ ap (λ t. taken ++ t) (some.last fault last) ∙ append-nil taken)

    open-so-far : (opts : WriteOpts) (before : List Event) → Represents opts before first → is_list (before ++ events) ≡ true → over ≡ None → is_open (before ++ taken) ≡ true
    open-so-far opts before stood list none =
        let at = so_far.represents opts before stood list in
        let appends = some.appends opts (before ++ so_far.taken) (represents-at opts (before ++ so_far.taken) now at) (list-is before list) in
        ap is_open (sym (append_assoc before so_far.taken some.taken)) ∙ (appends.more none).clear

    -- a write that stopped left a prefix of what all events become
    pub ended : (answer ≡ Went → ⊥) → (opts : WriteOpts) (before : List Event) → Represents opts before first → is_list (before ++ events) ≡ true → Took answer opts before events held held''
    ended apart opts before stood list = of-over over refl
      where
        not-over : over ≡ None → (fault : Option Fault) → answer ≡ Over fault → ⊥
        not-over none fault over_is = let e : None ≡ Some fault = sym none ∙ subst (OutcomeFor over) over_is is in cc

        of-over : (over' : Option (Option Fault)) → over ≡ over' → Took answer opts before events held held''
        of-over (Some fault) last = subst (λ t. Took answer opts before t held held'') (none-left fault last) (took-both opts before stood list)
        of-over None none =
            subst (λ t. Took answer opts before t held held'') (sym all-is)
            (stopped-longer answer opts before taken rest' held held'' apart (not-over none) (open-so-far opts before stood list none) (took-both opts before stood list))
