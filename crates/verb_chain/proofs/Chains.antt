-- A chain of verbs, and one more verb.
use Rattle.std.proofs.Common.{◌≡◌, Bool, true, false, not, ◌&&◌, ◌||◌, List, [], ◌∷◌, ◌++◌, refl, ap, ap₂, ◌∙◌}
use Rattle.std.specs.List.{list_any}
use Rattle.std.specs.Prelude.{is_some}
use Rattle.std.proofs.lemmas.List.Folds.{list_all-append}
use Rattle.mlr_event.specs.declared.event.Event.{Event}
use Rattle.mlr_event.specs.Verb.{KeepsOrder, Verb, is_list}
use Rattle.verb_chain.specs.Chain.{chain_from, closing, stopped_from}
use Rattle.verb_chain.specs.declared.stage.Stage.{Stage}
use Rattle.verb_chain.specs.Represents.{StagesRepresent, all_quiet, made_at, verbs_of}
use Rattle.verb_chain.proofs.InOrder.{made-at-list, quiet_after}

pub quiet-all : (quiet : Bool) (verbs : List Verb) → quiet_after quiet verbs ≡ (quiet && all_quiet verbs)
quiet-all true [] = refl
quiet-all false [] = refl
quiet-all true (verb ∷ verbs) = quiet-all (not verb.effects) verbs
quiet-all false (verb ∷ verbs) = quiet-all false verbs

pub quiet-last : (verbs : List Verb) (verb : Verb) → all_quiet (verbs ++ verb ∷ []) ≡ (all_quiet verbs && not verb.effects)
quiet-last verbs verb = list_all-append (λ verb. not verb.effects) verbs (verb ∷ []) ∙ ap (λ b. all_quiet verbs && b) (and-true (not verb.effects))
  where
    and-true : (b : Bool) → (b && true) ≡ b
    and-true true = refl
    and-true false = refl

module _ {S : Type 0} (verb : S → Verb) (represents : S → List Event → Type 0) where
  -- from a list that ends with its first end or fault, verbs make such a list
  pub chain-list : ((s : S) → KeepsOrder (verb s)) → (quiet : Bool) (stages : List (Stage S)) (events : List Event) → is_list events ≡ true → is_list (chain_from quiet (verbs_of verb stages) events) ≡ true
  chain-list order quiet [] events list = list
  chain-list order quiet (stage ∷ stages) events list =
      chain-list order (quiet && not (verb stage.gate.verb).effects) stages (made_at quiet (verb stage.gate.verb) events) (made-at-list quiet (verb stage.gate.verb) events (order stage.gate.verb) list)

  -- a verb was closed exactly if the definition says so
  pub shut-stopped : (quiet : Bool) (stages : List (Stage S)) (given : List Event) → StagesRepresent verb represents quiet given stages → list_any (λ stage. stage.gate.shut) stages ≡ stopped_from quiet (verbs_of verb stages) given
  shut-stopped quiet [] given at = refl
  shut-stopped quiet (stage ∷ stages) given at =
      let v = verb stage.gate.verb in
      let same : stage.gate.shut ≡ (quiet && is_some (closing v given)) = at.1.shut ∙ ap (λ q. q && is_some (closing v given)) at.0 in
      ap₂ (λ a b. a || b) same (shut-stopped (quiet && not v.effects) stages (made_at quiet v given) at.3)
