-- PPRINT, line by line: the events of a line, and the state after it.
use Rattle.std.specs.Prelude.{ℕ, ◌+◌, ◌==◌, ◌||◌, if◌then◌else◌, List, [], ◌∷◌, ◌++◌, length, max, Option, Some, None}
use Rattle.mlr_event.specs.declared.event.Event.{Event}
use Rattle.mlr_event.specs.declared.names.FileRef.{FileRef}
use Rattle.mlr_event.specs.declared.fault.Fault.TheVariants.{Table}
use Rattle.mlr_event.specs.declared.options.ReadOpts.{ReadOpts}
use Rattle.mlr_event.specs.Reading.{Item, fields, fault, is_comment, comment_items, events_of, ctx_after}
use Rattle.mlr_event.specs.Stream.{has_fault}
use Rattle.read_xtab_pprint.specs.declared.row.Row.{Row}
use Rattle.read_xtab_pprint.specs.declared.row.Row.TheVariants as outcome
use Rattle.read_xtab_pprint.specs.declared.rules.PprintRules.{PprintRules}
use Rattle.read_xtab_pprint.specs.Pprint.{cells_of, is_rule, row}

abbrev pub row_items : Row → List Item
row_items outcome.Nothing = []
row_items (outcome.Fields pairs) = fields pairs ∷ []
row_items (outcome.Fault f) = fault f ∷ []

-- a line of cells is the header of a table, or a row under it
abbrev pub cells_items : ReadOpts → FileRef → ℕ → Option (List (List ℕ)) → Option (List (List ℕ)) → List Item
cells_items opts file n header None = fault (Table file n) ∷ []
cells_items opts file n None (Some cells) = []
cells_items opts file n (Some header) (Some cells) = row opts file n header cells

abbrev pub header_after : Option (List (List ℕ)) → Option (List (List ℕ)) → Option (List (List ℕ))
header_after header None = header
header_after None (Some cells) = Some cells
header_after (Some header) (Some cells) = Some header

-- the items of a line without its line ending that isn't a comment, and the header of the next line
abbrev pub plain_items : ReadOpts → FileRef → ℕ → Option (List (List ℕ)) → List ℕ → List Item
plain_items opts file n header line = if is_rule line || length line == 0 then [] else cells_items opts file n header (cells_of line)

abbrev pub plain_header : Option (List (List ℕ)) → List ℕ → Option (List (List ℕ))
plain_header header line = if is_rule line then header else (if length line == 0 then None else header_after header (cells_of line))

-- the items of line n, under the header of its table if that has been read, and the header of the next line
abbrev pub line_items : ReadOpts → FileRef → ℕ → Option (List (List ℕ)) → List ℕ → List Item
line_items opts file n header line =
    if is_comment opts.comments line then comment_items opts.comments line else plain_items opts file n header line

abbrev pub line_header : ReadOpts → Option (List (List ℕ)) → List ℕ → Option (List (List ℕ))
line_header opts header line = if is_comment opts.comments line then header else plain_header header line

-- the items of lines, of which the first has number n
abbrev pub items_from : ReadOpts → FileRef → ℕ → Option (List (List ℕ)) → List (List ℕ) → List Item
items_from opts file n header [] = []
items_from opts file n header (line ∷ lines) = line_items opts file n header line ++ items_from opts file (n + 1) (line_header opts header line) lines

-- the state after a line that isn't a comment, except for the line number
abbrev pub after_row : PprintRules → List ℕ → PprintRules
after_row rules line =
    let items = plain_items rules.opts rules.file rules.number rules.header line in
    record rules { header = plain_header rules.header line; at = ctx_after rules.at items; stopped = has_fault items }

-- the items of a line without its line ending, and the state after it; after a fault there are none
abbrev pub items_by : PprintRules → List ℕ → List Item
items_by rules line = line_items rules.opts rules.file rules.number rules.header line

abbrev pub pprint_after : PprintRules → List ℕ → PprintRules
pprint_after rules line =
    if rules.stopped then rules else
    record rules {
      number = rules.number + 1;
      header = line_header rules.opts rules.header line;
      at = ctx_after rules.at (items_by rules line);
      stopped = has_fault (items_by rules line);
    }

abbrev pub pprint_events : PprintRules → List ℕ → List Event
pprint_events rules line = if rules.stopped then [] else events_of rules.at (items_by rules line)

abbrev pub pprint_count : PprintRules → ℕ
pprint_count rules = max rules.number (max rules.at.nr rules.at.fnr)
