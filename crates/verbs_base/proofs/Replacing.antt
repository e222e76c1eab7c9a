-- Records are replaced in their places, one event after another.
use Rattle.std.proofs.Common.{◌≡◌, ℕ, suc, ◌+◌, ◌<◌, ◌≤◌, Bool, true, false, cond, List, [], ◌∷◌, ◌++◌, Some, None, inl, inr, map, length, take, drop, set, get_or, refl, ap, ap₂, sym, ◌∙◌, append_assoc, arith, add-one, drop-cons, drop_of_length-le, take-suc}
use Rattle.std.specs.List.{swap}
use Rattle.std.proofs.lemmas.Bool.{cases_eq}
use Rattle.std.proofs.lemmas.Grind.{get_or-set_at}
use Rattle.std.proofs.lemmas.List.{append-nil, drop-set-lt, get_or-set_other, get_or-set_same, get_or_default, length-set, take-set-le}
use Rattle.mlr_event.specs.InPlace.{fields_in, with_fields}
use Rattle.std.proofs.lemmas.List.Edits.{swap_is}
use Rattle.mlr_event.specs.declared.event.Event.{Event}
use Rattle.mlr_event.specs.declared.event.Event.TheVariants as event
use Rattle.verbs_base.specs.Records.{Fields, Row, each, given_for, given_for_all, row_in}
use Rattle.verbs_base.specs.Replacing.{IsReplaced, given_of, given_of_all}
use Rattle.verbs_base.proofs.Changing.{set-twice}

module _ {X : Type 0} where
  -- the elements before a place, with the one at a later place after them
  swapped-in : (xs : List X) (i j : ℕ) (d : X) → i ≤ j → j < length xs → take (suc i) (swap xs i j) ≡ take i xs ++ get_or xs j d ∷ []
  swapped-in xs i j d in_order below =
      let under : i < length xs = omega arith in
      let first = set xs i (get_or xs j d) in
      let second = set first j (get_or xs i d) in
      let is : second ≡ swap xs i j = swap_is xs i j d under below in
      let still : i < length second = omega (arith, below, in_order, length-set first j (get_or xs i d) ∙ length-set xs i (get_or xs j d)) in
      ap (take (suc i)) (sym is) ∙ take-suc second i d still
      ∙ ap₂ (λ a b. a ++ b ∷ []) (take-set-le i first j (get_or xs i d) in_order ∙ take-set-le i xs i (get_or xs j d) (omega arith)) (here xs i j d in_order below)
    where
      here : (xs : List X) (i j : ℕ) (d : X) → i ≤ j → j < length xs → get_or (set (set xs i (get_or xs j d)) j (get_or xs i d)) i d ≡ get_or xs j d
      here xs i j d in_order below =
          let first = set xs i (get_or xs j d) in
          let within : j < length first = omega (arith, below, length-set xs i (get_or xs j d)) in
          elim (cases_eq j i) [
            | inl same ↦ get_or-set_at first j i (get_or xs i d) d (sym same) within ∙ ap (λ k. get_or xs k d) (sym same)
            | inr apart ↦ get_or-set_other first j i (get_or xs i d) d (λ e. apart (sym e)) ∙ get_or-set_same xs i (get_or xs j d) d (omega arith)
          ]

  -- those after the later place stay
  swapped-after : (xs : List X) (i j : ℕ) (d : X) → i ≤ j → j < length xs → drop (suc j) (swap xs i j) ≡ drop (suc j) xs
  swapped-after xs i j d in_order below =
      ap (drop (suc j)) (sym (swap_is xs i j d (omega arith) below))
      ∙ drop-set-lt (suc j) (set xs i (get_or xs j d)) j (get_or xs i d) (omega arith)
      ∙ drop-set-lt (suc j) xs i (get_or xs j d) (omega arith)

-- where each record is taken by itself, it doesn't matter what came before
module _ (gives : Fields → List Fields) where
  given-any : (before : List Row) (e : Event) → given_of gives e ≡ given_for (each gives) before e
  given-any before (event.Rec fields ctx) = refl
  given-any before (event.Text text) = refl
  given-any before (event.Out target piece) = refl
  given-any before (event.End ctx) = refl
  given-any before (event.Fault fault) = refl

  pub given-all-of : (before : List Row) (events : List Event) → given_of_all gives events ≡ given_for_all (each gives) before events
  given-all-of before [] = refl
  given-all-of before (e ∷ events) = ap₂ (λ one more. one ++ more) (given-any before e) (given-all-of (before ++ row_in e) events)

  -- the first events, replaced, before what those at a place and after it give
  abbrev pub replaced : (kept place : ℕ) (events : List Event) → List Event
  replaced kept place events = take kept events ++ given_of_all gives (drop place events)

  module _ (before after : List Event) (kept place : ℕ) (within : place < length before) (in_order : kept ≤ place) where
    here-is : (kept_is : Bool) (one : IsReplaced gives kept_is before after place) → given_of_all gives (drop place before) ≡ cond kept_is (one.event ∷ []) [] ++ given_of_all gives (drop (suc place) before)
    here-is kept_is one = ap (given_of_all gives) (drop-cons before place one.event within) ∙ ap (λ x. x ++ given_of_all gives (drop (suc place) before)) (one.given_is one.event)

    pub more-replaced : (one : IsReplaced gives true before after place) (swapped : List Event) → swapped ≡ swap after kept place → replaced (kept + 1) (place + 1) swapped ≡ replaced kept place before
    more-replaced one swapped is =
        let e = one.event in
        let still : place < length after = omega (arith, within, ap length one.after_is ∙ length-set before place e) in
        ap₂ (λ k p. replaced k p swapped) (add-one kept) (add-one place)
        ∙ ap (replaced (suc kept) (suc place)) is
        ∙ ap₂ (λ a b. a ++ given_of_all gives b)
        (swapped-in after kept place e in_order still
        ∙ ap₂ (λ a b. a ++ b ∷ []) (ap (take kept) one.after_is ∙ take-set-le kept before place e in_order) (ap (λ xs. get_or xs place e) one.after_is ∙ get_or-set_same before place e e within))
        (swapped-after after kept place e in_order still ∙ ap (drop (suc place)) one.after_is ∙ drop-set-lt (suc place) before place e (omega arith))
        ∙ append_assoc (take kept before) (e ∷ []) (given_of_all gives (drop (suc place) before))
        ∙ ap (λ x. take kept before ++ x) (sym (here-is true one))

    pub one-removed : (one : IsReplaced gives false before after place) → replaced kept (place + 1) after ≡ replaced kept place before
    one-removed one =
        let e = one.event in
        ap (λ p. replaced kept p after) (add-one place)
        ∙ ap₂ (λ a b. a ++ given_of_all gives b)
        (ap (take kept) one.after_is ∙ take-set-le kept before place e in_order)
        (ap (drop (suc place)) one.after_is ∙ drop-set-lt (suc place) before place e (omega arith))
        ∙ ap (λ x. take kept before ++ x) (sym (here-is false one))

  -- what an event gives, by what it holds
  none-there : (e : Event) → None ≡ fields_in e → (given_of gives e ≡ e ∷ []) × ((others : Fields) → with_fields others e ≡ e)
  none-there (event.Rec fields ctx) is = absurd (let f : None ≡ Some fields = is in cc)
  none-there (event.Text text) is = (refl, λ others. refl)
  none-there (event.Out target piece) is = (refl, λ others. refl)
  none-there (event.End ctx) is = (refl, λ others. refl)
  none-there (event.Fault fault) is = (refl, λ others. refl)

  given-there : (e : Event) (made : List Fields) (fields : Fields) → Some fields ≡ fields_in e → made ≡ gives fields → given_of gives e ≡ map (λ other. with_fields other e) made
  given-there (event.Rec fields ctx) made other is given =
      let same : other ≡ fields = cc in
      ap (λ m. map (λ f. event.Rec f ctx) m) (sym (given ∙ ap gives same))
  given-there (event.Text text) made other is given = absurd (let f : Some other ≡ None = is in cc)
  given-there (event.Out target piece) made other is given = absurd (let f : Some other ≡ None = is in cc)
  given-there (event.End ctx) made other is given = absurd (let f : Some other ≡ None = is in cc)
  given-there (event.Fault fault) made other is given = absurd (let f : Some other ≡ None = is in cc)

  fields-twice : (one other : Fields) (e : Event) → with_fields other (with_fields one e) ≡ with_fields other e
  fields-twice one other (event.Rec fields ctx) = refl
  fields-twice one other (event.Text text) = refl
  fields-twice one other (event.Out target piece) = refl
  fields-twice one other (event.End ctx) = refl
  fields-twice one other (event.Fault fault) = refl

  -- the event at a place, which is there
  module _ (before : List Event) (place : ℕ) (within : place < length before) where
    some-event : (xs : List Event) → place < length xs → Event
    some-event [] below = absurd (omega arith)
    some-event (x ∷ xs) below = x

    abbrev there : Event
    there = get_or before place (some-event before within)

    is-there : (e : Event) → get_or before place e ≡ there
    is-there e = get_or_default before place e (some-event before within) within

    pub other-stays : (after : List Event) (fields : Fields) → ((e : Event) → None ≡ fields_in (get_or before place e)) → ((e : Event) → after ≡ set before place (with_fields fields (get_or before place e)))
        → IsReplaced gives true before after place
    other-stays after fields none put =
        let stays = none-there there (none (some-event before within)) in
        record {
          event = there;
          after_is = put (some-event before within) ∙ ap (set before place) (stays.1 fields);
          given_is = λ e. ap (given_of gives) (is-there e) ∙ stays.0;
        }

    module _ (middle : List Event) (nothing fields : Fields) (had : (e : Event) → Some fields ≡ fields_in (get_or before place e)) (put : (e : Event) → middle ≡ set before place (with_fields nothing (get_or before place e))) where
      middle-is : middle ≡ set before place (with_fields nothing there)
      middle-is = put (some-event before within)

      pub still-within : place < length middle
      still-within = omega (arith, within, ap length middle-is ∙ length-set before place (with_fields nothing there))

      pub none-given : [] ≡ gives fields → IsReplaced gives false before middle place
      none-given none = record {
        event = with_fields nothing there;
        after_is = middle-is;
        given_is = λ e. ap (given_of gives) (is-there e) ∙ given-there there [] fields (had (some-event before within)) none;
      }

      pub one-given : (made : Fields) → made ∷ [] ≡ gives fields → (after : List Event) → ((e : Event) → after ≡ set middle place (with_fields made (get_or middle place e)))
          → IsReplaced gives true before after place
      one-given made given after again =
          let d = some-event before within in
          let emptied = with_fields nothing there in
          let held : get_or middle place d ≡ emptied = ap (λ xs. get_or xs place d) middle-is ∙ get_or-set_same before place emptied d within in
          record {
            event = with_fields made there;
            after_is =
                again d ∙ ap₂ (λ xs e. set xs place (with_fields made e)) middle-is held
                ∙ set-twice before place emptied (with_fields made emptied) ∙ ap (set before place) (fields-twice nothing made there);
            given_is = λ e. ap (given_of gives) (is-there e) ∙ given-there there (made ∷ []) fields (had d) given;
          }

  -- all events are replaced
  pub all-replaced : (kept place : ℕ) (events : List Event) → length events ≤ place → take kept events ≡ replaced kept place events
  all-replaced kept place events past = sym (ap (λ rest. take kept events ++ given_of_all gives rest) (drop_of_length-le events past) ∙ append-nil (take kept events))
