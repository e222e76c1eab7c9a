-- JSON: all records as one list in brackets, or one after another without. In the list no line end is written
-- after a record until it is known what follows.
use Rattle.std.specs.Prelude.{ℕ, Bool, false, if◌then◌else◌, List, [], ◌∷◌, ◌++◌, codes}
use Rattle.mlr_spec.specs.Ascii.{line_feed}
use Rattle.mlr_spec.specs.declared.json.JsonStyle.{JsonStyle}
use Rattle.mlr_spec.specs.declared.json.JsonStyle.TheVariants.{Stacked, Single}
use Rattle.mlr_spec.specs.Json.{json_record}
use Rattle.mlr_event.specs.declared.event.Body.{Body}
use Rattle.mlr_event.specs.declared.options.Format.{Format}
use Rattle.mlr_event.specs.declared.options.Format.TheVariants.{Json}
use Rattle.writers.specs.declared.options.WriteOpts.{WriteOpts}
use Rattle.writers.specs.Before.{records_in}
use Rattle.writers.specs.Joined.{are_any}
use Rattle.writers.specs.Runs.{Record, line_end_after}

abbrev pub style_of : WriteOpts → JsonStyle
style_of opts = if opts.stacked then Stacked else Single

-- whether the records are written as one list
abbrev pub is_listed : Format → WriteOpts → Bool
is_listed Json opts = opts.listwrap
is_listed _ opts = false

-- the bracket that begins the list, or the comma after another record
abbrev pub list_lead : List Record → List ℕ
list_lead before = if are_any before then codes ",\n" else codes "[\n"

-- what a record gives after the records before it
abbrev pub json_written : WriteOpts → List Record → Record → List ℕ
json_written opts before r =
    if opts.listwrap then list_lead before ++ json_record (style_of opts) r else json_record (style_of opts) r ++ line_feed ∷ []

-- the end of the list, which begins here if there was no record
abbrev pub json_end : WriteOpts → List Body → List ℕ
json_end opts bodies =
    if opts.listwrap then (if are_any (records_in opts bodies) then line_end_after bodies else codes "[\n") ++ codes "]\n" else []
