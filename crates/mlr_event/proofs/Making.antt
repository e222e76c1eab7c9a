-- What a verb makes of a list of events, and of a longer one.
use Rattle.std.proofs.Common.{◌≡◌, Bool, true, false, not, cond, ◌||◌, List, [], ◌∷◌, ◌++◌, refl, ap, ap₂, sym, ◌∙◌, append_assoc, inl, inr}
use Rattle.std.specs.List.{list_any, list_all}
use Rattle.std.proofs.lemmas.List.{append-nil}
use Rattle.std.proofs.lemmas.Bool.{cases_Bool, not-true, or_parts}
use Rattle.std.proofs.lemmas.List.Elements.{filter-append}
use Rattle.std.proofs.lemmas.List.Folds.{list_any-append}
use Rattle.mlr_event.specs.declared.event.Event.{Event}
use Rattle.mlr_event.specs.declared.event.Event.TheVariants as event
use Rattle.mlr_event.specs.Verb.{IsQuiet, Verb, gives, is_fault, is_last, is_open, is_record, made, made_after, others, then_unless_fault}

-- without a fault, more may follow
pub no-fault : (xs ys : List Event) → list_any is_fault xs ≡ false → then_unless_fault xs ys ≡ xs ++ ys
no-fault xs ys none = ap (λ t. cond t xs (xs ++ ys)) none

pub then-nothing : (xs : List Event) → then_unless_fault xs [] ≡ xs
then-nothing xs = elim (cases_Bool (list_any is_fault xs)) as (λ _. then_unless_fault xs [] ≡ xs) [
  | inl some ↦ ap (λ t. cond t xs (xs ++ [])) some
  | inr none ↦ no-fault xs [] none ∙ append-nil xs
]

then-assoc : (xs ys zs : List Event) → then_unless_fault xs (then_unless_fault ys zs) ≡ then_unless_fault (then_unless_fault xs ys) zs
then-assoc xs ys zs = elim (cases_Bool (list_any is_fault xs)) as (λ _. then_unless_fault xs (then_unless_fault ys zs) ≡ then_unless_fault (then_unless_fault xs ys) zs) [
  | inl some ↦
      ap (λ t. cond t xs (xs ++ then_unless_fault ys zs)) some
      ∙ sym (ap (λ t. cond t xs (xs ++ zs)) some)
      ∙ ap (λ t. then_unless_fault t zs) (sym (ap (λ t. cond t xs (xs ++ ys)) some))
  | inr none ↦
      no-fault xs (then_unless_fault ys zs) none
      ∙ later none
      ∙ ap (λ t. then_unless_fault t zs) (sym (no-fault xs ys none))
]
  where
    later : list_any is_fault xs ≡ false → xs ++ then_unless_fault ys zs ≡ then_unless_fault (xs ++ ys) zs
    later none =
        let both : list_any is_fault (xs ++ ys) ≡ list_any is_fault ys = list_any-append is_fault xs ys ∙ ap (λ t. t || list_any is_fault ys) none in
        elim (cases_Bool (list_any is_fault ys)) as (λ _. xs ++ then_unless_fault ys zs ≡ then_unless_fault (xs ++ ys) zs) [
          | inl some ↦ ap (λ t. xs ++ cond t ys (ys ++ zs)) some ∙ sym (ap (λ t. cond t (xs ++ ys) ((xs ++ ys) ++ zs)) (both ∙ some))
          | inr clean ↦ ap (λ t. xs ++ t) (no-fault ys zs clean) ∙ sym (append_assoc xs ys zs) ∙ sym (no-fault (xs ++ ys) zs (both ∙ clean))
        ]

module _ (verb : Verb) where
  made-append : (before xs ys : List Event) → made_after verb before (xs ++ ys) ≡ then_unless_fault (made_after verb before xs) (made_after verb (before ++ xs) ys)
  made-append before [] ys = ap (λ b. made_after verb b ys) (sym (append-nil before))
  made-append before (x ∷ xs) ys =
      ap (then_unless_fault (gives verb before x)) (made-append (before ++ x ∷ []) xs ys)
      ∙ then-assoc (gives verb before x) (made_after verb (before ++ x ∷ []) xs) (made_after verb ((before ++ x ∷ []) ++ xs) ys)
      ∙ ap (λ b. then_unless_fault (made_after verb before (x ∷ xs)) (made_after verb b ys)) (append_assoc before (x ∷ []) xs)

  -- more events
  pub made-following : (events following : List Event) → made verb (events ++ following) ≡ then_unless_fault (made verb events) (made_after verb events following)
  made-following events following =
      ap (then_unless_fault verb.first) (made-append [] events following) ∙ then-assoc verb.first (made_after verb [] events) (made_after verb events following)

  pub made-grows : (events following : List Event) → (more : List Event) × (made verb (events ++ following) ≡ made verb events ++ more)
  made-grows events following = elim (cases_Bool (list_any is_fault (made verb events))) [
    | inl some ↦ ([], made-following events following ∙ ap (λ t. cond t (made verb events) (made verb events ++ made_after verb events following)) some ∙ sym (append-nil (made verb events)))
    | inr none ↦ (made_after verb events following, made-following events following ∙ no-fault (made verb events) (made_after verb events following) none)
  ]

  pub made-more : (events : List Event) (e : Event) → list_any is_fault (made verb events) ≡ false → made verb (events ++ e ∷ []) ≡ made verb events ++ gives verb events e
  made-more events e none =
      made-following events (e ∷ []) ∙ no-fault (made verb events) (made_after verb events (e ∷ [])) none ∙ ap (λ t. made verb events ++ t) (then-nothing (gives verb events e))

abbrev other : Event → Bool
other e = not (is_record e)

-- records are no faults
pub records-fault : (xs : List Event) → list_all is_record xs ≡ true → list_any is_fault xs ≡ false
records-fault [] all = refl
records-fault (event.Rec fields ctx ∷ xs) all = records-fault xs all
records-fault (event.Text text ∷ xs) all = absurd (let e : false ≡ true = all in cc)
records-fault (event.Out target piece ∷ xs) all = absurd (let e : false ≡ true = all in cc)
records-fault (event.End ctx ∷ xs) all = absurd (let e : false ≡ true = all in cc)
records-fault (event.Fault fault ∷ xs) all = absurd (let e : false ≡ true = all in cc)

records-others : (xs : List Event) → list_all is_record xs ≡ true → others xs ≡ []
records-others [] all = refl
records-others (event.Rec fields ctx ∷ xs) all = records-others xs all
records-others (event.Text text ∷ xs) all = absurd (let e : false ≡ true = all in cc)
records-others (event.Out target piece ∷ xs) all = absurd (let e : false ≡ true = all in cc)
records-others (event.End ctx ∷ xs) all = absurd (let e : false ≡ true = all in cc)
records-others (event.Fault fault ∷ xs) all = absurd (let e : false ≡ true = all in cc)

-- a verb without effects
module _ (verb : Verb) (quiet : IsQuiet verb) (none : verb.effects ≡ false) where
  gives-others : (before : List Event) (e : Event) → others (gives verb before e) ≡ others (e ∷ [])
  gives-others before (event.Rec fields ctx) = records-others (verb.now before fields ctx) ((quiet none).now before fields ctx)
  gives-others before (event.Text text) = refl
  gives-others before (event.Out target piece) = refl
  gives-others before (event.End ctx) =
      let records : list_all is_record (verb.late before ctx) ≡ true = (quiet none).late before ctx in
      ap others (no-fault (verb.late before ctx) (event.End ctx ∷ []) (records-fault (verb.late before ctx) records))
      ∙ filter-append other (verb.late before ctx) (event.End ctx ∷ [])
      ∙ ap (λ t. t ++ event.End ctx ∷ []) (records-others (verb.late before ctx) records)
  gives-others before (event.Fault fault) = refl

  gives-fault : (before : List Event) (e : Event) → is_last e ≡ false → list_any is_fault (gives verb before e) ≡ false
  gives-fault before (event.Rec fields ctx) open_is = records-fault (verb.now before fields ctx) ((quiet none).now before fields ctx)
  gives-fault before (event.Text text) open_is = refl
  gives-fault before (event.Out target piece) open_is = refl
  gives-fault before (event.End ctx) open_is = absurd (let e : true ≡ false = open_is in cc)
  gives-fault before (event.Fault fault) open_is = absurd (let e : true ≡ false = open_is in cc)

  made-open : (before events : List Event) → list_any is_last events ≡ false → (list_any is_fault (made_after verb before events) ≡ false) × (others (made_after verb before events) ≡ others events)
  made-open before [] open_is = (refl, refl)
  made-open before (e ∷ events) open_is =
      let parts = or_parts (is_last e) (list_any is_last events) open_is in
      let g = gives verb before e in
      let m = made_after verb (before ++ e ∷ []) events in
      let later = made-open (before ++ e ∷ []) events parts.1 in
      let clean : list_any is_fault g ≡ false = gives-fault before e parts.0 in
      let whole : made_after verb before (e ∷ events) ≡ g ++ m = no-fault g m clean in (
        ap (list_any is_fault) whole ∙ list_any-append is_fault g m ∙ ap₂ (λ a b. a || b) clean later.0,
        ap others whole ∙ filter-append other g m ∙ ap₂ (λ a b. a ++ b) (gives-others before e) later.1 ∙ sym (filter-append other (e ∷ []) events),
      )

  made-so-far : (events : List Event) → is_open events ≡ true → (list_any is_fault (made verb events) ≡ false) × (others (made verb events) ≡ others events)
  made-so-far events open_is =
      let following = made_after verb [] events in
      let so_far = made-open [] events (not-true (list_any is_last events) open_is) in
      let clean : list_any is_fault verb.first ≡ false = records-fault verb.first (quiet none).first in
      let whole : made verb events ≡ verb.first ++ following = no-fault verb.first following clean in (
        ap (list_any is_fault) whole ∙ list_any-append is_fault verb.first following ∙ ap₂ (λ a b. a || b) clean so_far.0,
        ap others whole ∙ filter-append other verb.first following ∙ ap₂ (λ a b. a ++ b) (records-others verb.first (quiet none).first) so_far.1,
      )

  -- an event adds what it gives
  pub made-next : (events : List Event) (e : Event) → is_open events ≡ true → made verb (events ++ e ∷ []) ≡ made verb events ++ gives verb events e
  made-next events e open_is = made-more verb events e (made-so-far events open_is).0

  pub made-quiet : (events : List Event) (e : Event) → is_open events ≡ true → others (made verb (events ++ e ∷ [])) ≡ others (events ++ e ∷ [])
  made-quiet events e open_is =
      let so_far = made-so-far events open_is in
      ap others (made-more verb events e so_far.0)
      ∙ filter-append other (made verb events) (gives verb events e)
      ∙ ap₂ (λ a b. a ++ b) so_far.1 (gives-others events e)
      ∙ sym (filter-append other events (e ∷ []))
