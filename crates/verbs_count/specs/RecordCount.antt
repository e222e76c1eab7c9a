-- The number of records, which `count` without grouping fields gives.
use Rattle.std.specs.Prelude.{ℕ, List, [], ◌∷◌, length}
use Rattle.mlr_event.specs.declared.event.Ctx.{Ctx}
use Rattle.verbs_base.specs.Records.{Fields, RecordVerb, Row}
use Rattle.group_state.specs.AtEnd.{at_end}
use Rattle.group_state.specs.Counts.{count_value}

-- a record of one field, which has this count
abbrev pub count_record : List ℕ → ℕ → Fields
count_record output n = (output, count_value n) ∷ []

abbrev pub count_row : List ℕ → ℕ → Ctx → List Row
count_row output n ctx = (count_record output n, ctx) ∷ []

abbrev pub record_count : List ℕ → RecordVerb
record_count output = at_end (λ rows ctx. count_row output (length rows) ctx)
