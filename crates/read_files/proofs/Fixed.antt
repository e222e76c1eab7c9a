-- What inputs give doesn't change after an end or a fault.
use Rattle.std.proofs.Common.{◌≡◌, true, false, List, [], ◌∷◌, ◌++◌, Option, Some, None, refl, ap, ap₂, sym, ◌∙◌, inl, inr}
use Rattle.std.specs.Prelude.{if◌then◌else◌}
use Rattle.std.specs.List.{list_any}
use Rattle.std.proofs.lemmas.Bool.{cases_Bool, true≢false}
use Rattle.std.proofs.lemmas.List.{append-nil}
use Rattle.mlr_event.specs.declared.event.Event.{Event}
use Rattle.mlr_event.specs.declared.names.InputName.{InputName}
use Rattle.mlr_event.specs.declared.options.ReadOpts.{ReadOpts}
use Rattle.mlr_event.specs.Verb.{is_fault, is_list, is_open}
use Rattle.mlr_event.proofs.Ordered.{open-before}
use Rattle.mlr_world.specs.Taken.{Take}
use Rattle.read_files.specs.Takes.{GoesOn, InOrder, TakeGoesOn, stops_at}
use Rattle.read_files.specs.Sources.{events_taken, source}
use Rattle.read_files.proofs.Formats.{Growth}
use Rattle.read_files.proofs.Growing.{inputs-list, source-grows}
use Rattle.read_files.proofs.Steps.{source-faulty, source-stops, take_of, taken-open}

-- all but the first of inputs in order
order-rest : (name : InputName) (names : List InputName) (t : Take) (takes : List Take) → InOrder (name ∷ names) (t ∷ takes) → InOrder names takes
order-rest name names t [] order = tt
order-rest name names t (u ∷ takes) order = order.2

-- nothing is taken after the end of an input
take-same : (t u : Take) → TakeGoesOn t u → t.ended ≡ true → u ≡ t
take-same t u on e =
    let all = on.1.2 e in
    ap₂ (λ name bytes. take_of name u.ended bytes) on.0 (on.1.1 ∙ ap (λ more. t.bytes ++ more) all.0 ∙ append-nil t.bytes) ∙ ap (λ ended. take_of t.name ended t.bytes) (all.1 ∙ sym e)

-- nor after the last input
pub all-taken : (names : List InputName) (given longer : List Take) → InOrder names given → InOrder names longer → GoesOn given longer → stops_at names given ≡ None → longer ≡ given
all-taken [] [] [] order order' on stops = refl
all-taken [] [] (u ∷ longer) order order' on stops = absurd order'
all-taken [] (t ∷ given) longer order order' on stops = absurd order
all-taken (name ∷ names) [] longer order order' on stops = absurd (let e : Some name ≡ None = stops in cc)
all-taken (name ∷ names) (t ∷ given) [] order order' on stops = absurd on
all-taken (name ∷ names) (t ∷ given) (u ∷ longer) order order' on stops = elim (cases_Bool t.ended) [
  | inl is ↦
      ap₂ (λ x xs. x ∷ xs) (take-same t u on.0 is)
      (all-taken names given longer (order-rest name names t given order) (order-rest name names u longer order') on.1
      (sym (ap (λ ended. if ended then stops_at names given else Some name) is) ∙ stops))
  | inr none ↦ absurd (let e : Some name ≡ None = sym (ap (λ ended. if ended then stops_at names given else Some name) none) ∙ stops in cc)
]

-- nothing follows an end or a fault in a list
last-alone : (xs ys : List Event) → is_open xs ≡ false → is_list (xs ++ ys) ≡ true → ys ≡ []
last-alone xs [] closed list = refl
last-alone xs (y ∷ ys) closed list = absurd (true≢false (sym (open-before xs y ys list) ∙ closed))

-- with an end and no fault no input remains
none-left : (opts : ReadOpts) (names : List InputName) (given : List Take) → list_any is_fault (events_taken opts given) ≡ false → is_open (source opts names given) ≡ false
    → (at : Option InputName) → stops_at names given ≡ at → stops_at names given ≡ None
none-left opts names given none closed None stops = stops
none-left opts names given none closed (Some name) stops = absurd (true≢false (sym (ap is_open (source-stops opts names given name stops) ∙ taken-open opts given none) ∙ closed))

pub source-fixed : (growth : Growth) (opts : ReadOpts) (names : List InputName) (given longer : List Take) → InOrder names given → InOrder names longer → GoesOn given longer → is_open (source opts names given) ≡ false
    → source opts names longer ≡ source opts names given
source-fixed growth opts names given longer order order' on closed = elim (cases_Bool (list_any is_fault (events_taken opts given))) [
  | inl some ↦
      let now : source opts names given ≡ events_taken opts given = source-faulty opts names given some in
      let more = source-grows growth opts names given longer order on in
      more.1
      ∙ ap (λ m. events_taken opts given ++ m) (last-alone (events_taken opts given) more.0 (ap is_open (sym now) ∙ closed) (ap is_list (sym more.1) ∙ inputs-list opts names longer))
      ∙ append-nil (events_taken opts given)
      ∙ sym now
  | inr none ↦ ap (source opts names) (all-taken names given longer order order' on (none-left opts names given none closed (stops_at names given) refl))
]
