-- A verb that gives each record as it is, and nothing of its own, gives each list as it is.
use Rattle.std.proofs.Common.{◌≡◌, ℕ, true, false, not, List, [], ◌∷◌, ◌++◌, refl, ap, ap₂, ◌∙◌}
use Rattle.std.proofs.lemmas.Bool.{and_parts}
use Rattle.mlr_spec.specs.Tree.{Tree}
use Rattle.mlr_event.specs.declared.event.Ctx.{Ctx}
use Rattle.mlr_event.specs.declared.event.Event.{Event}
use Rattle.mlr_event.specs.declared.event.Event.TheVariants as event
use Rattle.mlr_event.specs.Verb.{Verb, gives, is_last, is_list, made, made_after, then_unless_fault}

-- nothing follows a fault, and a fault is the last event of a list
alone : (e : Event) → then_unless_fault (e ∷ []) [] ≡ e ∷ []
alone (event.Rec fields ctx) = refl
alone (event.Text text) = refl
alone (event.Out target piece) = refl
alone (event.End ctx) = refl
alone (event.Fault fault) = refl

inner : (e : Event) (more : List Event) → not (is_last e) ≡ true → then_unless_fault (e ∷ []) more ≡ e ∷ more
inner (event.Rec fields ctx) more is = refl
inner (event.Text text) more is = refl
inner (event.Out target piece) more is = refl
inner (event.End ctx) more is = absurd (let e : false ≡ true = is in cc)
inner (event.Fault fault) more is = absurd (let e : false ≡ true = is in cc)

module _ (verb : Verb)
    (now : (before : List Event) (fields : List (List ℕ × Tree)) (ctx : Ctx) → verb.now before fields ctx ≡ event.Rec fields ctx ∷ [])
    (late : (before : List Event) (ctx : Ctx) → verb.late before ctx ≡ []) where
  gives-one : (before : List Event) (e : Event) → gives verb before e ≡ e ∷ []
  gives-one before (event.Rec fields ctx) = now before fields ctx
  gives-one before (event.Text text) = refl
  gives-one before (event.Out target piece) = refl
  gives-one before (event.End ctx) = ap (λ t. then_unless_fault t (event.End ctx ∷ [])) (late before ctx)
  gives-one before (event.Fault fault) = refl

  gives-all : (before events : List Event) → is_list events ≡ true → made_after verb before events ≡ events
  gives-all before [] is = refl
  gives-all before (e ∷ []) is = ap (λ t. then_unless_fault t []) (gives-one before e) ∙ alone e
  gives-all before (e ∷ f ∷ events) is =
      let parts = and_parts (not (is_last e)) (is_list (f ∷ events)) is in
      ap₂ then_unless_fault (gives-one before e) (gives-all (before ++ e ∷ []) (f ∷ events) parts.1) ∙ inner e (f ∷ events) parts.0

  pub passes-all : verb.first ≡ [] → (events : List Event) → is_list events ≡ true → made verb events ≡ events
  passes-all first events is = ap (λ t. then_unless_fault t (made_after verb [] events)) first ∙ gives-all [] events is
