-- Records as runs of equal keys, and what each format writes of them as a whole.
use Rattle.std.specs.Prelude.{ℕ, Bool, true, false, if◌then◌else◌, List, [], ◌∷◌, ◌++◌, map, codes}
use Rattle.std.specs.List.{flat_map, filter}
use Rattle.mlr_spec.specs.Ascii.{line_feed}
use Rattle.mlr_event.specs.declared.event.Body.{Body}
use Rattle.mlr_event.specs.declared.event.Body.TheVariants.{Rec, Text}
use Rattle.mlr_spec.specs.Json.{joined}
use Rattle.mlr_spec.specs.Tree.{Tree}
use Rattle.writers.specs.declared.form.Part.TheVariants.{Keys}
use Rattle.writers.specs.Cells.{texts, same_texts}
use Rattle.writers.specs.Joined.{are_any}

abbrev pub Record : Type 0
Record = List (List ℕ × Tree)

-- neighbouring records with equal keys in equal order are a run; a record without fields is a run of its own,
-- with nothing in it
abbrev pub with_first : Record → List (List Record) → List (List Record)
with_first r [] = (r ∷ []) ∷ []
with_first r ([] ∷ runs) = (r ∷ []) ∷ [] ∷ runs
with_first r ((next ∷ run) ∷ runs) =
    if same_texts (texts Keys r) (texts Keys next) then (r ∷ next ∷ run) ∷ runs else (r ∷ []) ∷ (next ∷ run) ∷ runs

abbrev pub runs_of : List Record → List (List Record)
runs_of [] = []
runs_of ([] ∷ rs) = [] ∷ runs_of rs
runs_of ((field ∷ r) ∷ rs) = with_first (field ∷ r) (runs_of rs)

-- all but the last
abbrev pub all_but_last : {A : Type 0} → List A → List A
all_but_last [] = []
all_but_last (x ∷ []) = []
all_but_last (x ∷ next ∷ xs) = x ∷ all_but_last (next ∷ xs)

-- those that hold something: runs with records, or records with fields
abbrev pub filled : {A : Type 0} → List (List A) → List (List A)
filled lists = filter are_any lists

-- the text of each that holds something, with an empty line between two
abbrev pub tables : {A : Type 0} → (List A → List ℕ) → List (List A) → List ℕ
tables table lists = joined (line_feed ∷ []) (map table (filled lists))

-- CSV, TSV, Markdown: a table is the header of its first record and a row for each
abbrev pub table_of : (Record → List ℕ) → (Record → List ℕ) → List Record → List ℕ
table_of header row [] = []
table_of header row (first ∷ rows) = header first ++ flat_map row (first ∷ rows)

-- a table for each run; or the rows alone, if no headers are written
abbrev pub sheet : Bool → (Record → List ℕ) → (Record → List ℕ) → List Record → List ℕ
sheet headerless header row rs = if headerless then flat_map row (filled rs) else tables (table_of header row) (runs_of rs)

-- JSON: the records of a list, up to the last without its line end
abbrev pub list_begun : (Record → List ℕ) → List Record → List ℕ
list_begun item [] = []
list_begun item (first ∷ more) = codes "[\n" ++ joined (codes ",\n") (map item (first ∷ more))

-- a whole list, between its brackets
abbrev pub list_of : (Record → List ℕ) → List Record → List ℕ
list_of item [] = codes "[\n]\n"
list_of item (first ∷ more) = codes "[\n" ++ joined (codes ",\n") (map item (first ∷ more)) ++ codes "\n]\n"

-- the line end that is missing in a list where a record was last
abbrev pub line_end_after : List Body → List ℕ
line_end_after [] = []
line_end_after (Rec r ∷ []) = line_feed ∷ []
line_end_after (Text text ∷ []) = []
line_end_after (body ∷ next ∷ bodies) = line_end_after (next ∷ bodies)

-- whether that line end is written before what follows: before a text or the end, and not before another record
abbrev pub wants_line_end : List Body → Bool → Bool
wants_line_end [] ended = ended
wants_line_end (Rec r ∷ bodies) ended = false
wants_line_end (Text text ∷ bodies) ended = true
