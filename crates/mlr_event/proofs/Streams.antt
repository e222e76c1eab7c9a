-- The events of items and more items.
use Rattle.std.proofs.Common.{◌≡◌, ℕ, false, ◌||◌, List, [], ◌∷◌, ◌++◌, refl, ap}
use Rattle.mlr_event.specs.declared.event.Ctx.{Ctx}
use Rattle.mlr_event.specs.declared.event.Event.TheVariants as event
use Rattle.mlr_event.specs.declared.options.Comments.{Comments}
use Rattle.mlr_event.specs.declared.options.Comments.TheVariants.{Keep, Skip, Pass}
use Rattle.mlr_event.specs.Reading.{Item, comment, fields, fault, events_of, ctx_after, next, comment_items}
use Rattle.mlr_event.specs.Stream.{has_fault, events_after, ctx_after_events}

pub events_of-append : (at : Ctx) (items more : List Item) → events_of at (items ++ more) ≡ events_of at items ++ events_after (has_fault items) (ctx_after at items) more
events_of-append at [] more = refl
events_of-append at (comment text ∷ items) more = ap (λ events. event.Text text ∷ events) (events_of-append at items more)
events_of-append at (fields pairs ∷ items) more = ap (λ events. event.Rec pairs (next at) ∷ events) (events_of-append (next at) items more)
events_of-append at (fault f ∷ items) more = refl

pub ctx_after-append : (at : Ctx) (items more : List Item) → ctx_after at (items ++ more) ≡ ctx_after_events (has_fault items) (ctx_after at items) more
ctx_after-append at [] more = refl
ctx_after-append at (comment text ∷ items) more = ctx_after-append at items more
ctx_after-append at (fields pairs ∷ items) more = ctx_after-append (next at) items more
ctx_after-append at (fault f ∷ items) more = refl

pub has_fault-append : (items more : List Item) → has_fault (items ++ more) ≡ (has_fault items || has_fault more)
has_fault-append [] more = refl
has_fault-append (comment text ∷ items) more = has_fault-append items more
has_fault-append (fields pairs ∷ items) more = has_fault-append items more
has_fault-append (fault f ∷ items) more = refl

-- comments are no fault, and have no number
pub has_fault-comment : (comments : Comments) (line : List ℕ) → has_fault (comment_items comments line) ≡ false
has_fault-comment Keep line = refl
has_fault-comment (Skip prefix) line = refl
has_fault-comment (Pass prefix) line = refl

pub ctx_after-comment : (comments : Comments) (line : List ℕ) (at : Ctx) → ctx_after at (comment_items comments line) ≡ at
ctx_after-comment Keep line at = refl
ctx_after-comment (Skip prefix) line at = refl
ctx_after-comment (Pass prefix) line at = refl
