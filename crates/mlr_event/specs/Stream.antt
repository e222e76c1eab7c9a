-- Where a file's events stop.
use Rattle.std.specs.Prelude.{Bool, true, false, List, [], ◌∷◌, if◌then◌else◌}
use Rattle.mlr_event.specs.declared.event.Ctx.{Ctx}
use Rattle.mlr_event.specs.declared.event.Event.{Event}
use Rattle.mlr_event.specs.Reading.{Item, comment, fields, fault, events_of, ctx_after}

-- whether there is a fault among them
abbrev pub has_fault : List Item → Bool
has_fault [] = false
has_fault (comment text ∷ items) = has_fault items
has_fault (fields pairs ∷ items) = has_fault items
has_fault (fault f ∷ items) = true

-- what more items give, and the context after them, where a fault has come or not
abbrev pub events_after : Bool → Ctx → List Item → List Event
events_after stopped at items = if stopped then [] else events_of at items

abbrev pub ctx_after_events : Bool → Ctx → List Item → Ctx
ctx_after_events stopped at items = if stopped then at else ctx_after at items
