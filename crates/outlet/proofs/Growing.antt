-- What standard output gets of a longer list extends what it gets of a shorter one.
use Rattle.std.proofs.Common.{◌≡◌, ℕ, Bool, true, false, not, ◌||◌, List, [], ◌∷◌, ◌++◌, refl, ap, ap₂, sym, ◌∙◌}
use Rattle.std.specs.List.{list_any}
use Rattle.std.proofs.lemmas.Bool.{not-true, or_parts}
use Rattle.std.proofs.lemmas.Grind.{flat_map-append}
use Rattle.std.proofs.lemmas.List.Folds.{list_any-append}
use Rattle.mlr_event.specs.declared.event.Body.{Body}
use Rattle.mlr_event.specs.declared.event.Event.{Event}
use Rattle.mlr_event.specs.declared.event.Event.TheVariants as event
use Rattle.mlr_event.specs.Verb.{is_end, is_last, is_open}
use Rattle.writers.specs.declared.options.WriteOpts.{WriteOpts}
use Rattle.writers.specs.Written.{written}
use Rattle.outlet.specs.Out.{bodies, event_bodies, fault_in, out_of}

-- the first event of an open list is no end and no fault, and the rest is open
pub open-parts : (e : Event) (events : List Event) → is_open (e ∷ events) ≡ true → (is_last e ≡ false) × (is_open events ≡ true)
open-parts e events open_is =
    let parts = or_parts (is_last e) (list_any is_last events) (not-true (is_last e || list_any is_last events) open_is) in
    (parts.0, ap not parts.1)

-- an end is a last event
no-last-no-end : (e : Event) → is_last e ≡ false → is_end e ≡ false
no-last-no-end (event.Rec fields ctx) is = refl
no-last-no-end (event.Text text) is = refl
no-last-no-end (event.Out target piece) is = refl
no-last-no-end (event.End ctx) is = is
no-last-no-end (event.Fault fault) is = refl

-- an open list has no end
pub no-end : (events : List Event) → is_open events ≡ true → list_any is_end events ≡ false
no-end [] open_is = refl
no-end (e ∷ events) open_is = let parts = open-parts e events open_is in ap₂ (λ a b. a || b) (no-last-no-end e parts.0) (no-end events parts.1)

-- and no fault
pub fault-following : (events following : List Event) → is_open events ≡ true → fault_in (events ++ following) ≡ fault_in following
fault-following [] following open_is = refl
fault-following (event.Rec fields ctx ∷ events) following open_is = fault-following events following (open-parts (event.Rec fields ctx) events open_is).1
fault-following (event.Text text ∷ events) following open_is = fault-following events following (open-parts (event.Text text) events open_is).1
fault-following (event.Out target piece ∷ events) following open_is = fault-following events following (open-parts (event.Out target piece) events open_is).1
fault-following (event.End ctx ∷ events) following open_is = absurd (let e : true ≡ false = (open-parts (event.End ctx) events open_is).0 in cc)
fault-following (event.Fault fault ∷ events) following open_is = absurd (let e : true ≡ false = (open-parts (event.Fault fault) events open_is).0 in cc)

pub end-following : (events following : List Event) → is_open events ≡ true → list_any is_end (events ++ following) ≡ list_any is_end following
end-following events following open_is = list_any-append is_end events following ∙ ap (λ b. b || list_any is_end following) (no-end events open_is)

pub bodies-append : (events following : List Event) → bodies (events ++ following) ≡ bodies events ++ bodies following
bodies-append events following = flat_map-append event_bodies events following

-- the text of an open list, and of one after it
pub out-open : (opts : WriteOpts) (events : List Event) → is_open events ≡ true → out_of opts events ≡ written opts (bodies events) false
out-open opts events open_is = ap (written opts (bodies events)) (no-end events open_is)

pub out-following : (opts : WriteOpts) (events following : List Event) → is_open events ≡ true → out_of opts (events ++ following) ≡ written opts (bodies events ++ bodies following) (list_any is_end following)
out-following opts events following open_is = ap₂ (written opts) (bodies-append events following) (end-following events following open_is)

-- from the law of what is written
pub out-grows : ((opts : WriteOpts) (bodies following : List Body) (ended : Bool) → (more : List ℕ) × (written opts (bodies ++ following) ended ≡ written opts bodies false ++ more))
    → (opts : WriteOpts) (events following : List Event) → is_open events ≡ true → (more : List ℕ) × (out_of opts (events ++ following) ≡ out_of opts events ++ more)
out-grows grows opts events following open_is =
    let more = grows opts (bodies events) (bodies following) (list_any is_end following) in
    (more.0, out-following opts events following open_is ∙ more.1 ∙ ap (λ t. t ++ more.0) (sym (out-open opts events open_is)))
