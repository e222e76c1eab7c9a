-- What the records and texts before another one come to.
use Rattle.std.specs.Prelude.{Bool, List, [], ◌∷◌}
use Rattle.std.specs.List.{list_any}
use Rattle.mlr_event.specs.declared.event.Body.{Body}
use Rattle.mlr_event.specs.declared.event.Body.TheVariants.{Rec, Text}
use Rattle.writers.specs.declared.options.WriteOpts.{WriteOpts}
use Rattle.writers.specs.Cells.{shaped}
use Rattle.writers.specs.Joined.{are_any}
use Rattle.writers.specs.Runs.{Record}

-- the records among them, in the shape in which they are written
abbrev pub records_in : WriteOpts → List Body → List Record
records_in opts [] = []
records_in opts (Rec r ∷ bodies) = shaped opts r ∷ records_in opts bodies
records_in opts (Text text ∷ bodies) = records_in opts bodies

-- the last of a list; this one where the list is empty
abbrev pub last_or : {A : Type 0} → A → List A → A
last_or x [] = x
last_or x (y ∷ ys) = last_or y ys

-- whether any record has fields
abbrev pub any_filled : List Record → Bool
any_filled rs = list_any are_any rs
