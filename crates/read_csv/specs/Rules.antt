-- The events of one line, and the state after it.
use Rattle.std.specs.Prelude.{ℕ, ◌+◌, not, ◌&&◌, ◌||◌, ◌==◌, Bool, if◌then◌else◌, List, [], ◌∷◌, ◌++◌, length, drop, max, Option, is_some}
use Rattle.mlr_spec.specs.Ascii.{line_feed}
use Rattle.mlr_lines.specs.Lines.{without_return}
use Rattle.mlr_event.specs.declared.event.Event.{Event}
use Rattle.mlr_event.specs.declared.fault.Fault.TheVariants.{Quote}
use Rattle.mlr_event.specs.Reading.{Item, fault, is_comment, events_of, ctx_after}
use Rattle.mlr_event.specs.Stream.{has_fault}
use Rattle.read_csv.specs.declared.rules.RowRules.{RowRules}
use Rattle.read_csv.specs.Rows.{skipped_items}
use Rattle.read_csv.specs.OpenRow.{RowState, no_row, row_taken, with_text}
use Rattle.read_csv.specs.Headers.{closed_values, values_header}

-- whether a line is skipped: where a row may begin, an empty line and a comment are
abbrev pub is_passed : RowRules → List ℕ → Bool
is_passed rules text = not (is_some rules.row.quotes) && (is_comment rules.opts.comments text || length text == 0)

-- the number of the line on which the next line's row begins
abbrev pub begins_now : RowRules → ℕ
begins_now rules = if is_some rules.row.quotes then rules.begins else rules.number

-- the items of a row after one more line; none while a quote is open
abbrev pub row_gives : RowRules → RowState → List Item
row_gives rules row = if is_some row.quotes then [] else closed_values rules.opts rules.file (begins_now rules) rules.header row.values

-- the header and the open row after one more line of a row
abbrev pub header_after_row : RowRules → RowState → Option (List (List ℕ))
header_after_row rules row = if is_some row.quotes then rules.header else values_header rules.opts rules.header row.values

abbrev pub row_after_row : RowState → RowState
row_after_row row = if is_some row.quotes then row else no_row

-- the items of a line without its line ending
abbrev pub text_items : RowRules → List ℕ → List Item
text_items rules text = if is_passed rules text then skipped_items rules.opts text else row_gives rules (row_taken rules.opts rules.row text)

-- the state after one more line of a row, and after any line without its line ending, except for the line
-- number
abbrev pub after_row : RowRules → RowState → RowRules
after_row rules row = record rules {
  begins = begins_now rules;
  header = header_after_row rules row;
  row = row_after_row row;
  at = ctx_after rules.at (row_gives rules row);
  stopped = has_fault (row_gives rules row);
}

abbrev pub after_text : RowRules → List ℕ → RowRules
after_text rules text = if is_passed rules text then rules else after_row rules (row_taken rules.opts rules.row text)

-- within an open quote, the line ending is part of the field
abbrev pub with_end : RowState → List ℕ → RowState
with_end row end = if is_some row.quotes then with_text row end else row

abbrev pub line_end : List ℕ → List ℕ
line_end line = drop (length (without_return line)) line ++ line_feed ∷ []

-- the state after an ended line, and its events; after a fault there are none
abbrev pub after_line : RowRules → List ℕ → RowRules
after_line rules line =
    if rules.stopped then rules else
    let next = after_text rules (without_return line) in record next { number = next.number + 1; row = with_end next.row (line_end line) }

abbrev pub gives_line : RowRules → List ℕ → List Event
gives_line rules line = if rules.stopped then [] else events_of rules.at (text_items rules (without_return line))

-- at the end of the file, an open quote is a fault
abbrev pub open_items : RowRules → List Item
open_items rules = if is_some rules.row.quotes then fault (Quote rules.file rules.begins) ∷ [] else []

abbrev pub last_items : RowRules → List ℕ → List Item
last_items rules text = text_items rules text ++ open_items (after_text rules text)

abbrev pub after_last : RowRules → List ℕ → RowRules
after_last rules line =
    if rules.stopped then rules else
    let next = after_text rules line in record next { stopped = has_fault (last_items rules line) }

abbrev pub gives_last : RowRules → List ℕ → List Event
gives_last rules line = if rules.stopped then [] else events_of rules.at (last_items rules line)

-- the largest of the counters
abbrev pub count_of : RowRules → ℕ
count_of rules = max rules.number (max rules.at.nr rules.at.fnr)
