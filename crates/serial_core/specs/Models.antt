-- A model verb that a record closes, for the tests of runs.
use Rattle.std.proofs.Common.{◌≡◌, ℕ, Bool, true, false, ◌&&◌, ◌||◌, List, [], ◌∷◌, ◌++◌, refl, ap, ◌∙◌}
use Rattle.std.specs.Prelude.{if◌then◌else◌}
use Rattle.std.specs.List.{list_all, list_any}
use Rattle.std.proofs.lemmas.List.Folds.{list_any-append}
use Rattle.mlr_spec.specs.Tree.{Tree}
use Rattle.mlr_event.specs.declared.event.Ctx.{Ctx}
use Rattle.mlr_event.specs.declared.event.Event.{Event}
use Rattle.mlr_event.specs.declared.event.Event.TheVariants as event
use Rattle.mlr_event.specs.Verb.{IsQuiet, KeepsOrder, StaysClosed, Verb, gives, is_part, is_record}

abbrev pub has_record : List Event → Bool
has_record events = list_any is_record events

-- an event, unless it is a record after another
abbrev pub unless_after : Bool → Event → List Event
unless_after met e = if is_record e && met then [] else e ∷ []

-- the first record alone
abbrev pub first_record : Verb
first_record = record { first = []; now = λ before fields ctx. unless_after (has_record before) (event.Rec fields ctx); late = λ before ctx. []; closed = λ before. has_record before; effects = false }

record-alone : (met : Bool) (fields : List (List ℕ × Tree)) (ctx : Ctx) → list_all is_record (unless_after met (event.Rec fields ctx)) ≡ true
record-alone true fields ctx = refl
record-alone false fields ctx = refl

record-part : (met : Bool) (fields : List (List ℕ × Tree)) (ctx : Ctx) → is_part (unless_after met (event.Rec fields ctx)) ≡ true
record-part true fields ctx = refl
record-part false fields ctx = refl

pub first-quiet : IsQuiet first_record
first-quiet none = record { first = refl; now = λ before fields ctx. record-alone (has_record before) fields ctx; late = λ before ctx. refl }

pub first-orderly : KeepsOrder first_record
first-orderly = record { first = refl; now = λ before fields ctx. record-part (has_record before) fields ctx; late = λ before ctx. refl }

pub first-closes : StaysClosed first_record
first-closes before following is =
    let met : has_record (before ++ following) ≡ true = list_any-append is_record before following ∙ ap (λ b. b || has_record following) is in
    (λ fields ctx. ap (λ b. unless_after b (event.Rec fields ctx)) met, λ ctx. refl)

pub first-gives : (before : List Event) (e : Event) → gives first_record before e ≡ unless_after (has_record before) e
first-gives before (event.Rec fields ctx) = refl
first-gives before (event.Text text) = refl
first-gives before (event.Out target piece) = refl
first-gives before (event.End ctx) = refl
first-gives before (event.Fault fault) = refl

-- whether it met a record
abbrev pub FirstRepresents : Bool → Bool → List Event → Type 0
FirstRepresents broken met given = (broken ≡ false) × (met ≡ has_record given)
