-- The events that a verb over records was given.
use Rattle.std.specs.Prelude.{◌≡◌, Bool, false, List, Option, Some, None}
use Rattle.mlr_event.specs.declared.event.Event.{Event}
use Rattle.mlr_event.specs.Verb.{is_open}
use Rattle.verbs_base.specs.Records.{RecordVerb, Row, records, rows_in}

-- The verb was given the records, and `shut` is None; or the list has ended, and `shut` tells whether the verb was
-- closed by then.
pub data WasGiven (meaning : RecordVerb) (represents : List Row → Type 0) (shut : Option Bool) (given : List Event) : Type 0 where
  open_so_far : shut ≡ None → represents (rows_in given) → WasGiven meaning represents shut given
  at_end : is_open given ≡ false → shut ≡ Some (meaning.closed (records (rows_in given))) → WasGiven meaning represents shut given
