-- The output of a chain grows with its list of events, and no longer once the chain is stopped.
use Rattle.std.proofs.Common.{◌≡◌, Bool, true, false, not, cond, ◌&&◌, ◌||◌, List, [], ◌∷◌, ◌++◌, map, Option, Some, None, refl, ap, sym, ◌∙◌, append_assoc, ◌⊎◌, inl, inr}
use Rattle.std.specs.Prelude.{is_some}
use Rattle.std.specs.List.{find}
use Rattle.std.specs.Option.{option_map}
use Rattle.std.proofs.lemmas.Iterator.Adapters.{option_map_id}
use Rattle.std.proofs.lemmas.List.{append-nil}
use Rattle.std.proofs.lemmas.Bool.{cases_Bool}
use Rattle.mlr_event.specs.declared.event.Event.{Event}
use Rattle.mlr_event.specs.declared.event.Event.TheVariants as event
use Rattle.mlr_event.specs.Verb.{Verb, is_open, made}
use Rattle.mlr_event.proofs.Making.{made-grows}
use Rattle.verb_chain.specs.Chain.{chain_from, closing, cut, prefixes, last_context, stopped_from, zero_context}

-- a list is a prefix of another
abbrev pub Begins : List Event → List Event → Type 0
Begins prefix events = (more : List Event) × (events ≡ prefix ++ more)

some-map : {X B C : Type 0} (f : B → C) (g : X → B) (o : Option X) → option_map f (option_map g o) ≡ option_map (λ x. f (g x)) o
some-map f g None = refl
some-map f g (Some x) = refl

-- the shortest prefix that passes a test
module _ {A : Type 0} where
  abbrev pub least : (List A → Bool) → List A → List A → Option (List A)
  least test before [] = cond (test before) (Some []) None
  least test before (x ∷ xs) = cond (test before) (Some []) (option_map (λ prefix. x ∷ prefix) (least test (before ++ x ∷ []) xs))

  find-map : {B : Type 0} (test : List A → Bool) (f : B → List A) (xs : List B) → find test (map f xs) ≡ option_map f (find (λ x. test (f x)) xs)
  find-map test f [] = refl
  find-map test f (x ∷ xs) = elim (cases_Bool (test (f x))) as (λ _. cond (test (f x)) (Some (f x)) (find test (map f xs)) ≡ option_map f (cond (test (f x)) (Some x) (find (λ x. test (f x)) xs))) [
    | inl is ↦ ap (λ b. cond b (Some (f x)) (find test (map f xs))) is ∙ sym (ap (λ b. option_map f (cond b (Some x) (find (λ x. test (f x)) xs))) is)
    | inr not_is ↦ ap (λ b. cond b (Some (f x)) (find test (map f xs))) not_is ∙ find-map test f xs ∙ sym (ap (λ b. option_map f (cond b (Some x) (find (λ x. test (f x)) xs))) not_is)
  ]

  -- the first prefix that passes is the shortest
  found : (test : List A → Bool) (before xs : List A) → find (λ prefix. test (before ++ prefix)) (prefixes xs) ≡ least test before xs
  found test before [] = ap (λ b. cond (test b) (Some []) None) (append-nil before)
  found test before (x ∷ xs) =
      ap (λ b. cond (test b) (Some []) (find (λ prefix. test (before ++ prefix)) (map (λ prefix. x ∷ prefix) (prefixes xs)))) (append-nil before)
      ∙ ap (λ o. cond (test before) (Some []) o) (
      find-map (λ prefix. test (before ++ prefix)) (λ prefix. x ∷ prefix) (prefixes xs)
      ∙ ap (option_map (λ prefix. x ∷ prefix)) (same (prefixes xs) ∙ found test (before ++ x ∷ []) xs)
      )
    where
      same : (ys : List (List A)) → find (λ prefix. test (before ++ x ∷ prefix)) ys ≡ find (λ prefix. test ((before ++ x ∷ []) ++ prefix)) ys
      same [] = refl
      same (y ∷ ys) = ap (λ b. cond (test b) (Some y) (find (λ prefix. test (before ++ x ∷ prefix)) ys)) (sym (append_assoc before (x ∷ []) y)) ∙ ap (λ o. cond (test ((before ++ x ∷ []) ++ y)) (Some y) o) (same ys)

  least-now : (test : List A → Bool) (before xs : List A) → test before ≡ true → least test before xs ≡ Some []
  least-now test before [] is = ap (λ b. cond b (Some []) None) is
  least-now test before (x ∷ xs) is = ap (λ b. cond b (Some []) (option_map (λ prefix. x ∷ prefix) (least test (before ++ x ∷ []) xs))) is

  least-later : (test : List A → Bool) (before : List A) (x : A) (xs : List A) → test before ≡ false → least test before (x ∷ xs) ≡ option_map (λ prefix. x ∷ prefix) (least test (before ++ x ∷ []) xs)
  least-later test before x xs not_is = ap (λ b. cond b (Some []) (option_map (λ prefix. x ∷ prefix) (least test (before ++ x ∷ []) xs))) not_is

  -- In a longer list either the same prefix passes as in the shorter one, or, if none passes there, the
  -- prefix that passes begins with the whole shorter list.
  abbrev IsEarly : (test : List A → Bool) (before xs ys : List A) → Type 0
  IsEarly test before xs ys = (prefix : List A) × (least test before xs ≡ Some prefix) × (least test before (xs ++ ys) ≡ Some prefix)

  abbrev IsLate : (test : List A → Bool) (before xs ys : List A) → Type 0
  IsLate test before xs ys = (least test before xs ≡ None) × (least test before (xs ++ ys) ≡ option_map (λ prefix. xs ++ prefix) (least test (before ++ xs) ys))

  pub least-split : (test : List A → Bool) (before xs ys : List A) → IsEarly test before xs ys ⊎ IsLate test before xs ys
  least-split test before [] ys = elim (cases_Bool (test before)) [
    | inl is ↦ inl ([], ap (λ b. cond b (Some []) None) is, least-now test before ys is)
    | inr not_is ↦ inr (
      ap (λ b. cond b (Some []) None) not_is,
      sym (option_map_id (least test before ys)) ∙ ap (λ b. option_map (λ prefix. prefix) (least test b ys)) (sym (append-nil before)),
    )
  ]
  least-split test before (x ∷ xs) ys = elim (cases_Bool (test before)) [
    | inl is ↦ inl ([], least-now test before (x ∷ xs) is, least-now test before (x ∷ xs ++ ys) is)
    | inr not_is ↦ elim (least-split test (before ++ x ∷ []) xs ys) [
      | inl early ↦ inl (
        x ∷ early.0,
        least-later test before x xs not_is ∙ ap (option_map (λ prefix. x ∷ prefix)) early.1,
        least-later test before x (xs ++ ys) not_is ∙ ap (option_map (λ prefix. x ∷ prefix)) early.2,
      )
      | inr late ↦ inr (
        least-later test before x xs not_is ∙ ap (option_map (λ prefix. x ∷ prefix)) late.0,
        least-later test before x (xs ++ ys) not_is
            ∙ ap (option_map (λ prefix. x ∷ prefix)) late.1
            ∙ some-map (λ prefix. x ∷ prefix) (λ prefix. xs ++ prefix) (least test ((before ++ x ∷ []) ++ xs) ys)
            ∙ ap (λ b. option_map (λ prefix. x ∷ xs ++ prefix) (least test b ys)) (append_assoc before (x ∷ []) xs),
      )
    ]
  ]

abbrev pub closes : Verb → List Event → Bool
closes verb prefix = is_open prefix && verb.closed prefix

pub closing-least : (verb : Verb) (events : List Event) → closing verb events ≡ least (closes verb) [] events
closing-least verb events = found (closes verb) [] events

abbrev pub ended : Option (List Event) → List Event → List Event
ended o events = elim o [ Some prefix ↦ prefix ++ event.End (last_context zero_context prefix) ∷ [] | None ↦ events ]

-- more events are given to a verb, unless it was closed and given its end
cut-more : (verb : Verb) (events following : List Event) → Begins (cut true verb events) (cut true verb (events ++ following))
cut-more verb events following = elim (least-split (closes verb) [] events following) [
  | inl early ↦ ([], ap (λ o. ended o (events ++ following)) (closing-least verb (events ++ following) ∙ early.2) ∙ sym (append-nil (ended (Some early.0) events)) ∙ ap (λ o. ended o events ++ []) (sym (closing-least verb events ∙ early.1)))
  | inr late ↦
      let now : cut true verb events ≡ events = ap (λ o. ended o events) (closing-least verb events ∙ late.0) in
      let then_ = rest (least (closes verb) events following) in (
        then_.0,
        ap (λ o. ended o (events ++ following)) (closing-least verb (events ++ following) ∙ late.1) ∙ then_.1 ∙ ap (λ t. t ++ then_.0) (sym now),
      )
]
  where
    rest : (o : Option (List Event)) → Begins events (ended (option_map (λ prefix. events ++ prefix) o) (events ++ following))
    rest None = (following, refl)
    rest (Some prefix) = (prefix ++ event.End (last_context zero_context (events ++ prefix)) ∷ [], append_assoc events prefix (event.End (last_context zero_context (events ++ prefix)) ∷ []))

cut-grows : (quiet : Bool) (verb : Verb) (events following : List Event) → Begins (cut quiet verb events) (cut quiet verb (events ++ following))
cut-grows true verb events following = cut-more verb events following
cut-grows false verb events following = (following, refl)

pub cut-closed : (verb : Verb) (events following : List Event) → is_some (closing verb events) ≡ true → cut true verb (events ++ following) ≡ cut true verb events
cut-closed verb events following is = elim (least-split (closes verb) [] events following) [
  | inl early ↦ ap (λ o. ended o (events ++ following)) (closing-least verb (events ++ following) ∙ early.2) ∙ sym (ap (λ o. ended o events) (closing-least verb events ∙ early.1))
  | inr late ↦ absurd (let e : false ≡ true = sym (ap is_some (closing-least verb events ∙ late.0)) ∙ is in cc)
]

pub chain-grows : (quiet : Bool) (verbs : List Verb) (events following : List Event) → Begins (chain_from quiet verbs events) (chain_from quiet verbs (events ++ following))
chain-grows quiet [] events following = (following, refl)
chain-grows quiet (verb ∷ verbs) events following =
    let more = cut-grows quiet verb events following in
    let made_more = made-grows verb (cut quiet verb events) more.0 in
    let whole : made verb (cut quiet verb (events ++ following)) ≡ made verb (cut quiet verb events) ++ made_more.0 = ap (made verb) more.1 ∙ made_more.1 in
    let later = chain-grows (quiet && not verb.effects) verbs (made verb (cut quiet verb events)) made_more.0 in
    (later.0, ap (chain_from (quiet && not verb.effects) verbs) whole ∙ later.1)

pub chain-stops : (quiet : Bool) (verbs : List Verb) (events following : List Event) → stopped_from quiet verbs events ≡ true → chain_from quiet verbs (events ++ following) ≡ chain_from quiet verbs events
chain-stops quiet [] events following is = absurd (let e : false ≡ true = is in cc)
chain-stops quiet (verb ∷ verbs) events following is =
    let quiet_after = quiet && not verb.effects in
    let more = cut-grows quiet verb events following in
    let made_more = made-grows verb (cut quiet verb events) more.0 in
    let whole : made verb (cut quiet verb (events ++ following)) ≡ made verb (cut quiet verb events) ++ made_more.0 = ap (made verb) more.1 ∙ made_more.1 in
    elim (cases_Bool (quiet && is_some (closing verb events))) [
      | inl here ↦ ap (λ t. chain_from quiet_after verbs (made verb t)) (same quiet here)
      | inr elsewhere ↦
          ap (chain_from quiet_after verbs) whole
          ∙ chain-stops quiet_after verbs (made verb (cut quiet verb events)) made_more.0 (sym (ap (λ b. b || stopped_from quiet_after verbs (made verb (cut quiet verb events))) elsewhere) ∙ is)
    ]
  where
    same : (quiet : Bool) → (quiet && is_some (closing verb events)) ≡ true → cut quiet verb (events ++ following) ≡ cut quiet verb events
    same true is = cut-closed verb events following is
    same false is = absurd (let e : false ≡ true = is in cc)
