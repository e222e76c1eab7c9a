-- What the verbs of a plan make of a list is a list.
use Rattle.std.proofs.Common.{◌≡◌, Bool, true, false, not, ◌&&◌, List, [], ◌∷◌, ◌++◌, ℕ, ◌||◌, refl, ap, sym, ◌∙◌, subst}
use Rattle.std.specs.List.{list_any}
use Rattle.std.proofs.lemmas.List.Folds.{list_any-append}
use Rattle.mlr_spec.specs.Tree.{Tree}
use Rattle.mlr_event.specs.declared.event.Ctx.{Ctx}
use Rattle.mlr_event.specs.declared.event.Event.{Event}
use Rattle.mlr_event.specs.declared.event.Event.TheVariants as event
use Rattle.mlr_event.specs.Verb.{KeepsOrder, Verb, is_last, is_list, is_open}
use Rattle.verb_chain.specs.Chain.{chain, chain_from}
use Rattle.verb_chain.specs.Represents.{made_at}
use Rattle.verb_chain.proofs.InOrder.{made-at-list}
use Rattle.verbs_base.specs.Laws.{verb-orderly}
use Rattle.chain_core.proofs.OverRecords.{AreOverRecords}

list-of : (verbs : List Verb) → AreOverRecords verbs → (quiet : Bool) (events : List Event) → is_list events ≡ true → is_list (chain_from quiet verbs events) ≡ true
list-of [] are quiet events list = list
list-of (verb ∷ verbs) are quiet events list = list-of verbs are.1 (quiet && not verb.effects) (made_at quiet verb events) (made-at-list quiet verb events (subst KeepsOrder (sym are.0.1) (verb-orderly are.0.0)) list)

pub chained : (verbs : List Verb) → AreOverRecords verbs → (events : List Event) → is_list events ≡ true → is_list (chain verbs events) ≡ true
chained verbs are events list = list-of verbs are true events list

-- a list that goes on does so after a record
pub record-open : (events : List Event) (fields : List (List ℕ × Tree)) (ctx : Ctx) → is_open events ≡ true → is_open (events ++ event.Rec fields ctx ∷ []) ≡ true
record-open events fields ctx opens = ap not (list_any-append is_last events (event.Rec fields ctx ∷ []) ∙ or-none (list_any is_last events)) ∙ opens
  where
    or-none : (b : Bool) → (b || false) ≡ b
    or-none true = refl
    or-none false = refl
