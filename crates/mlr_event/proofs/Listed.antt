-- Events of a list are given to a verb one by one.
use Rattle.std.proofs.Common.{◌≡◌, true, List, [], ◌∷◌, ◌++◌, refl, ap, sym, ◌∙◌, subst, append_assoc}
use Rattle.std.proofs.lemmas.List.{append-nil}
use Rattle.mlr_event.specs.Adding.{Adds}
use Rattle.mlr_event.specs.declared.event.Event.{Event}
use Rattle.mlr_event.specs.Verb.{Verb, is_list, is_open, made}
use Rattle.mlr_event.proofs.Ordered.{open-before}

-- two additions make one
pub adds-both : {A : Type 0} (old middle new before between after : List A) → Adds old middle before between → Adds middle new between after → Adds old new before after
adds-both old middle new before between after first second = (
  first.0 ++ second.0,
  second.1 ∙ ap (λ t. t ++ second.0) first.1 ∙ append_assoc before first.0 second.0,
  second.2 ∙ ap (λ t. t ++ second.0) first.2 ∙ append_assoc old first.0 second.0,
)

pub adds-none : {A : Type 0} (old before after : List A) → after ≡ before → Adds old old before after
adds-none old before after same = ([], same ∙ sym (append-nil before), sym (append-nil old))

-- the verb has taken the first events of a list, and `rest` is still to come
module _ {S : Type 0} (verb : S → Verb) (represents : S → List Event → Type 0) where
  pub record Taken (old : S) (events out : List Event) (now : S) (rest out_now : List Event) : Type 0 where
    pub taken : List Event
    pub all : events ≡ taken ++ rest
    pub same : verb now ≡ verb old
    pub at : (given : List Event) → represents old given → is_list (given ++ events) ≡ true → represents now (given ++ taken)
    pub adds : (given : List Event) → represents old given → is_list (given ++ events) ≡ true → Adds out out_now (made (verb old) given) (made (verb old) (given ++ taken))

  pub none-taken : (old : S) (events out : List Event) → Taken old events out old events out
  none-taken old events out = record {
    taken = [];
    all = refl;
    same = refl;
    at = λ given at list. subst (represents old) (sym (append-nil given)) at;
    adds = λ given at list. adds-none out (made (verb old) given) (made (verb old) (given ++ [])) (ap (made (verb old)) (append-nil given));
  }

  module _ (old : S) (events out : List Event) (now : S) (rest : List Event) (e : Event) (out_now : List Event) (before : Taken old events out now (e ∷ rest) out_now) where
    pub still-open : (given : List Event) → is_list (given ++ events) ≡ true → is_open (given ++ before.taken) ≡ true
    still-open given list = open-before (given ++ before.taken) e rest (ap is_list (append_assoc given before.taken (e ∷ rest) ∙ ap (λ t. given ++ t) (sym before.all)) ∙ list)

    pub one-taken : (then_ : S) (out_then : List Event) → verb then_ ≡ verb now
        → ((given : List Event) → represents now given → is_open given ≡ true → represents then_ (given ++ e ∷ []))
        → ((given : List Event) → represents now given → is_open given ≡ true → Adds out_now out_then (made (verb now) given) (made (verb now) (given ++ e ∷ [])))
        → Taken old events out then_ rest out_then
    one-taken then_ out_then same at adds = record {
      taken = before.taken ++ e ∷ [];
      all = before.all ∙ sym (append_assoc before.taken (e ∷ []) rest);
      same = same ∙ before.same;
      at = λ given stood list. subst (represents then_) (append_assoc given before.taken (e ∷ [])) (at (given ++ before.taken) (before.at given stood list) (still-open given list));
      adds = λ given stood list.
          let made_to = made (verb old) in
          let step = adds (given ++ before.taken) (before.at given stood list) (still-open given list) in
          let same_verb : Adds out_now out_then (made_to (given ++ before.taken)) (made_to ((given ++ before.taken) ++ e ∷ [])) =
          subst (λ v. Adds out_now out_then (made v (given ++ before.taken)) (made v ((given ++ before.taken) ++ e ∷ []))) before.same step in
          adds-both out out_now out_then (made_to given) (made_to (given ++ before.taken)) (made_to (given ++ (before.taken ++ e ∷ []))) (before.adds given stood list)
          (subst (λ t. Adds out_now out_then (made_to (given ++ before.taken)) (made_to t)) (append_assoc given before.taken (e ∷ [])) same_verb);
    }

  -- no events remain
  module _ (old : S) (events out : List Event) (now : S) (out_now : List Event) (done : Taken old events out now [] out_now) where
    all-is : events ≡ done.taken
    all-is = done.all ∙ append-nil done.taken

    pub all-at : (given : List Event) → represents old given → is_list (given ++ events) ≡ true → represents now (given ++ events)
    all-at given stood list = subst (λ t. represents now (given ++ t)) (sym all-is) (done.at given stood list)

    pub all-adds : (given : List Event) → represents old given → is_list (given ++ events) ≡ true → Adds out out_now (made (verb old) given) (made (verb old) (given ++ events))
    all-adds given stood list = subst (λ t. Adds out out_now (made (verb old) given) (made (verb old) (given ++ t))) (sym all-is) (done.adds given stood list)
