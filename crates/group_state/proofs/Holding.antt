-- States that hold the records of their groups, and what they give at the end.
use Rattle.std.proofs.Common.{◌≡◌, ℕ, zero, suc, List, [], ◌∷◌, ◌++◌, set, length, None, Some, get_or, slice_get, refl, ap, sym, subst, ◌∙◌, append_assoc}
use Rattle.std.specs.List.{flat_map}
use Rattle.std.proofs.lemmas.List.{append-nil, map-append}
use Rattle.mlr_event.specs.declared.event.Ctx.{Ctx}
use Rattle.mlr_event.specs.declared.event.Event.{Event}
use Rattle.mlr_event.specs.declared.event.Event.TheVariants as event
use Rattle.verbs_base.specs.Records.{Row, events_of}
use Rattle.group_state.specs.AtEnd.{GivesAtEnd}
use Rattle.group_state.specs.Represents.{EachHolds}

module _ {S : Type 0} (gives : S → List Row → Ctx → List Row) (holds : S → List Row → Type 0) (late : List Row → Ctx → List Row) where
  -- there is a state for each group
  pub each-many : (states : List S) (groups : List (List Row)) → EachHolds gives holds late states groups → length states ≡ length groups
  each-many [] [] each = refl
  each-many [] (group ∷ groups) each = absurd each
  each-many (state ∷ states) [] each = absurd each
  each-many (state ∷ states) (group ∷ groups) each = ap suc (each-many states groups each.2)

  -- the state at a place holds the group at this place
  pub each-at : (states : List S) (groups : List (List Row)) → EachHolds gives holds late states groups → (p : ℕ) (group : List Row) → slice_get groups p ≡ Some group
      → (default : S) → (gives (get_or states p default) ≡ late) × holds (get_or states p default) group
  each-at [] [] each p group at default = absurd (let e : None ≡ Some group = at in cc)
  each-at [] (first ∷ groups) each p group at default = absurd each
  each-at (state ∷ states) [] each p group at default = absurd each
  each-at (state ∷ states) (first ∷ groups) each zero group at default = let e : first ≡ group = cc in (each.0, subst (holds state) e each.1)
  each-at (state ∷ states) (first ∷ groups) each (suc p) group at default = each-at states groups each.2 p group at default

  -- another state at a place, with the group that it holds
  pub each-set : (states : List S) (groups : List (List Row)) → EachHolds gives holds late states groups → (p : ℕ) (state : S) (group : List Row) → gives state ≡ late → holds state group
      → EachHolds gives holds late (set states p state) (set groups p group)
  each-set [] [] each p state group same held = tt
  each-set [] (first ∷ groups) each p state group same held = absurd each
  each-set (old ∷ states) [] each p state group same held = absurd each
  each-set (old ∷ states) (first ∷ groups) each zero state group same held = (same, held, each.2)
  each-set (old ∷ states) (first ∷ groups) each (suc p) state group same held = (each.0, each.1, each-set states groups each.2 p state group same held)

  -- one more state, with the group that it holds
  pub each-push : (states : List S) (groups : List (List Row)) → EachHolds gives holds late states groups → (state : S) (group : List Row) → gives state ≡ late → holds state group
      → EachHolds gives holds late (states ++ state ∷ []) (groups ++ group ∷ [])
  each-push [] [] each state group same held = (same, held, tt)
  each-push [] (first ∷ groups) each state group same held = absurd each
  each-push (old ∷ states) [] each state group same held = absurd each
  each-push (old ∷ states) (first ∷ groups) each state group same held = (each.0, each.1, each-push states groups each.2 state group same held)

  -- At the end the first states have given their records, and the others hold theirs.
  pub record Given (ctx : Ctx) (groups : List (List Row)) (out : List Event) (left : List S) (out' : List Event) : Type 0 where
    pub rest : List (List Row)
    pub each : EachHolds gives holds late left rest
    pub same : out' ++ events_of (flat_map (λ group. late group ctx) rest) ≡ out ++ events_of (flat_map (λ group. late group ctx) groups)

  pub none-given : (ctx : Ctx) (groups : List (List Row)) (out : List Event) (states : List S) → EachHolds gives holds late states groups → Given ctx groups out states out
  none-given ctx groups out states each = record { rest = groups; each = each; same = refl }

  -- the next state holds some records
  pub next-holds : (ctx : Ctx) (groups : List (List Row)) (out : List Event) (state : S) (left : List S) (out' : List Event) → Given ctx groups out (state ∷ left) out' → (rows : List Row) × holds state rows
  next-holds ctx groups out state left out' given = held given.rest given.each
    where
      held : (rest : List (List Row)) → EachHolds gives holds late (state ∷ left) rest → (rows : List Row) × holds state rows
      held [] each = absurd each
      held (group ∷ rest) each = (group, each.1)

  pub one-given : (ctx : Ctx) (groups : List (List Row)) (out : List Event) (state : S) (left : List S) (out' out'' : List Event) → Given ctx groups out (state ∷ left) out' → GivesAtEnd (gives state) (holds state) ctx out' out'' → Given ctx groups out left out''
  one-given ctx groups out state left out' out'' given more = next given.rest given.each given.same
    where
      next : (rest : List (List Row)) → EachHolds gives holds late (state ∷ left) rest → out' ++ events_of (flat_map (λ group. late group ctx) rest) ≡ out ++ events_of (flat_map (λ group. late group ctx) groups) → Given ctx groups out left out''
      next [] each same = absurd each
      next (group ∷ rest) each same = record {
        rest = rest;
        each = each.2;
        same =
            ap (λ now. now ++ events_of (flat_map (λ group. late group ctx) rest)) (more.gives group each.1 ∙ ap (λ of. out' ++ events_of (of group ctx)) each.0)
            ∙ append_assoc out' (events_of (late group ctx)) (events_of (flat_map (λ group. late group ctx) rest))
            ∙ ap (λ events. out' ++ events) (sym (map-append (λ row. event.Rec row.0 row.1) (late group ctx) (flat_map (λ group. late group ctx) rest)))
            ∙ same;
      }

  pub all-given : (ctx : Ctx) (groups : List (List Row)) (out out' : List Event) → Given ctx groups out [] out' → out' ≡ out ++ events_of (flat_map (λ group. late group ctx) groups)
  all-given ctx groups out out' given = done given.rest given.each given.same
    where
      done : (rest : List (List Row)) → EachHolds gives holds late [] rest → out' ++ events_of (flat_map (λ group. late group ctx) rest) ≡ out ++ events_of (flat_map (λ group. late group ctx) groups) → out' ≡ out ++ events_of (flat_map (λ group. late group ctx) groups)
      done [] each same = sym (append-nil out') ∙ same
      done (group ∷ rest) each same = absurd each
