-- A line raises the counters by at most one, since it gives at most one item.
use Rattle.std.specs.Prelude.{ℕ, ◌+◌, ◌≤◌, ◌||◌, ◌==◌, Bool, true, false, if◌then◌else◌, List, [], ◌∷◌, length, Option, Some, None, is_some}
use Rattle.std.proofs.Common.{arith}
use Rattle.mlr_lines.specs.Lines.{without_return}
use Rattle.mlr_spec.specs.Tree.{Tree}
use Rattle.mlr_event.specs.declared.event.Ctx.{Ctx}
use Rattle.mlr_event.specs.declared.names.FileRef.{FileRef}
use Rattle.mlr_event.specs.declared.options.ReadOpts.{ReadOpts}
use Rattle.mlr_event.specs.Reading.{Item, comment, fields, fault, ctx_after}
use Rattle.mlr_event.specs.Stream.{has_fault}
use Rattle.read_csv.specs.declared.rules.RowRules.{RowRules}
use Rattle.read_csv.specs.OpenRow.{RowState, row_taken}
use Rattle.read_csv.specs.Headers.{closed_values, header_of, values_items}
use Rattle.read_csv.specs.Rules.{after_last, after_line, begins_now, after_row, after_text, count_of, is_passed, last_items, line_end, row_gives, with_end}

few-either : (test : Bool) (items more : List Item) → length items ≤ 1 → length more ≤ 1 → length (if test then items else more) ≤ 1
few-either true items more few few_more = few
few-either false items more few few_more = few_more

few-values : (opts : ReadOpts) (file : FileRef) (line : ℕ) (header : List (List ℕ)) (values : List Tree) → length (values_items opts file line header values) ≤ 1
few-values opts file line header values = few-either (opts.ragged || length values == length header) _ _ (omega arith) (omega arith)

few-closed : (opts : ReadOpts) (file : FileRef) (line : ℕ) (header : Option (List (List ℕ))) (values : List Tree) → length (closed_values opts file line header values) ≤ 1
few-closed opts file line None values = few-either opts.implicit _ _ (few-values opts file line (header_of opts.implicit values) values) (omega arith)
few-closed opts file line (Some header) values = few-values opts file line header values

few-gives : (rules : RowRules) (row : RowState) → length (row_gives rules row) ≤ 1
few-gives rules row = few-either (is_some row.quotes) _ _ (omega arith) (few-closed rules.opts rules.file (begins_now rules) rules.header row.values)

one-record : (at : Ctx) (items : List Item) → length items ≤ 1 → ((ctx_after at items).nr ≤ at.nr + 1) × ((ctx_after at items).fnr ≤ at.fnr + 1)
one-record at [] few = (omega arith, omega arith)
one-record at (comment text ∷ []) few = (omega arith, omega arith)
one-record at (fields pairs ∷ []) few = (omega arith, omega arith)
one-record at (fault f ∷ items) few = (omega arith, omega arith)
one-record at (comment text ∷ item ∷ items) few = absurd (omega arith)
one-record at (fields pairs ∷ item ∷ items) few = absurd (omega arith)

-- the counters of a state after one more line
abbrev IsNext : RowRules → RowRules → Type 0
IsNext rules next = (next.number ≤ rules.number) × (next.at.nr ≤ rules.at.nr + 1) × (next.at.fnr ≤ rules.at.fnr + 1)

next-either : (test : Bool) (rules next : RowRules) → IsNext rules next → IsNext rules (if test then rules else next)
next-either true rules next one = (omega arith, omega arith, omega arith)
next-either false rules next one = one

next-text : (rules : RowRules) (text : List ℕ) → IsNext rules (after_text rules text)
next-text rules text =
    let row = row_taken rules.opts rules.row text in
    let one = one-record rules.at (row_gives rules row) (few-gives rules row) in
    next-either (is_passed rules text) rules (after_row rules row) (omega arith, one.0, one.1)

count-either : (stopped : Bool) (rules next : RowRules) → count_of next ≤ count_of rules + 1 → count_of (if stopped then rules else next) ≤ count_of rules + 1
count-either true rules next one = omega arith
count-either false rules next one = one

pub count-line : (rules : RowRules) (line : List ℕ) → count_of (after_line rules line) ≤ count_of rules + 1
count-line rules line =
    let next = after_text rules (without_return line) in
    let one = next-text rules (without_return line) in
    count-either rules.stopped rules (record next { number = next.number + 1; row = with_end next.row (line_end line) }) (omega (arith, one.0, one.1, one.2))

pub count-last : (rules : RowRules) (line : List ℕ) → count_of (after_last rules line) ≤ count_of rules + 1
count-last rules line =
    let next = after_text rules line in
    let one = next-text rules line in
    count-either rules.stopped rules (record next { stopped = has_fault (last_items rules line) }) (omega (arith, one.0, one.1, one.2))
