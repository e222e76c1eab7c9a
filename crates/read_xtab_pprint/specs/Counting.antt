-- A line raises the counters by at most one: it gives at most one record, or adds at most one field.
use Rattle.std.specs.Prelude.{◌≡◌, ℕ, ◌+◌, ◌≤◌, ◌==◌, ◌||◌, Bool, true, false, if◌then◌else◌, List, [], ◌∷◌, length, Option, Some, None}
use Rattle.std.specs.Str.{bytes_eq}
use Rattle.std.proofs.Common.{arith, refl, inl, inr}
use Rattle.std.proofs.lemmas.Bool.{cases_Bool}
use Rattle.std.proofs.lemmas.List.{length-append}
use Rattle.mlr_spec.specs.Pairs.{put_at, keys_of}
use Rattle.mlr_spec.specs.Tree.{Tree}
use Rattle.mlr_lines.specs.Lines.{without_return}
use Rattle.mlr_event.specs.declared.event.Ctx.{Ctx}
use Rattle.mlr_event.specs.declared.names.FileRef.{FileRef}
use Rattle.mlr_event.specs.declared.options.Comments.{Comments}
use Rattle.mlr_event.specs.declared.options.Comments.TheVariants.{Keep, Skip, Pass}
use Rattle.mlr_event.specs.declared.options.ReadOpts.{ReadOpts}
use Rattle.mlr_event.specs.Reading.{Item, comment, fields, fault, free_name, is_comment, comment_items, ctx_after}
use Rattle.mlr_event.specs.Rows.{with_field}
use Rattle.read_xtab_pprint.specs.declared.rules.BlockRules.{BlockRules}
use Rattle.read_xtab_pprint.specs.declared.rules.BlockRules.TheVariants as by
use Rattle.read_xtab_pprint.specs.declared.rules.PprintRules.{PprintRules}
use Rattle.read_xtab_pprint.specs.declared.rules.XtabRules.{XtabRules}
use Rattle.read_xtab_pprint.specs.Pprint.{cells_of, is_rule}
use Rattle.read_xtab_pprint.specs.PprintRules.{cells_items, line_items}
use Rattle.read_xtab_pprint.specs.PprintRules.{pprint_after, pprint_count, items_by}
use Rattle.read_xtab_pprint.specs.Last.{pprint_after_last, xtab_after_last}
use Rattle.read_xtab_pprint.specs.Rules.{after_last, after_line, at_of, count_of}
use Rattle.read_xtab_pprint.specs.Xtab.{is_gap, without_spaces}
use Rattle.read_xtab_pprint.specs.XtabRules.{after_gap, begun_items, begun_pairs, with_text, xtab_after, xtab_count}

length-put_at : (key : List ℕ) (value : Tree) (pairs : List (List ℕ × Tree)) → length (put_at key value pairs) ≤ length pairs + 1
length-put_at key value [] = omega arith
length-put_at key value (pair ∷ pairs) =
    elim (cases_Bool (bytes_eq pair.0 key)) as (λ _. length (put_at key value (pair ∷ pairs)) ≤ length (pair ∷ pairs) + 1) [
      | inl here ↦ rw here (omega arith)
      | inr other ↦ rw other (omega (arith, length-put_at key value pairs))
    ]

pub length-with_field : (dedupe : Bool) (key : List ℕ) (value : Tree) (pairs : List (List ℕ × Tree)) → length (with_field dedupe key value pairs) ≤ length pairs + 1
length-with_field true key value pairs = omega (arith, length-append pairs ((free_name (keys_of pairs) key, value) ∷ []))
length-with_field false key value pairs = length-put_at key value pairs

few-either : (test : Bool) (items more : List Item) → length items ≤ 1 → length more ≤ 1 → length (if test then items else more) ≤ 1
few-either true items more few few_more = few
few-either false items more few few_more = few_more

few-comments : (comments : Comments) (line : List ℕ) → length (comment_items comments line) ≤ 1
few-comments Keep line = omega arith
few-comments (Skip prefix) line = omega arith
few-comments (Pass prefix) line = omega arith

few-cells : (opts : ReadOpts) (file : FileRef) (n : ℕ) (header cells : Option (List (List ℕ))) → length (cells_items opts file n header cells) ≤ 1
few-cells opts file n None None = omega arith
few-cells opts file n (Some header) None = omega arith
few-cells opts file n None (Some cells) = omega arith
few-cells opts file n (Some header) (Some cells) = few-either (length cells == length header) _ _ (omega arith) (omega arith)

few-items : (opts : ReadOpts) (file : FileRef) (n : ℕ) (header : Option (List (List ℕ))) (line : List ℕ) → length (line_items opts file n header line) ≤ 1
few-items opts file n header line =
    few-either (is_comment opts.comments line) _ _ (few-comments opts.comments line)
    (few-either (is_rule line || length line == 0) _ _ (omega arith) (few-cells opts file n header (cells_of line)))

one-record : (at : Ctx) (items : List Item) → length items ≤ 1 → ((ctx_after at items).nr ≤ at.nr + 1) × ((ctx_after at items).fnr ≤ at.fnr + 1)
one-record at [] few = (omega arith, omega arith)
one-record at (comment text ∷ []) few = (omega arith, omega arith)
one-record at (fields pairs ∷ []) few = (omega arith, omega arith)
one-record at (fault f ∷ items) few = (omega arith, omega arith)
one-record at (comment text ∷ item ∷ items) few = absurd (omega arith)
one-record at (fields pairs ∷ item ∷ items) few = absurd (omega arith)

count-pprint : (stopped : Bool) (rules : PprintRules) (line : List ℕ) → rules.stopped ≡ stopped → pprint_count (pprint_after rules line) ≤ pprint_count rules + 1
count-pprint true rules line is = rw is (omega arith)
count-pprint false rules line is =
    let one = one-record rules.at (items_by rules line) (few-items rules.opts rules.file rules.number rules.header line) in
    rw is (omega (arith, one.0, one.1))

few-begun : (begun : Option (List (List ℕ × Tree))) → length (begun_items begun) ≤ 1
few-begun None = omega arith
few-begun (Some pairs) = omega arith

length-with_text : (opts : ReadOpts) (text : List ℕ) (begun : Option (List (List ℕ × Tree))) → length (begun_pairs (with_text opts text begun)) ≤ length (begun_pairs begun) + 1
length-with_text opts text begun = length-with_field opts.dedupe _ _ (begun_pairs begun)

count-by : (passes gap : Bool) (rules : XtabRules) (line : List ℕ) → is_comment rules.opts.comments line ≡ passes → is_gap line ≡ gap → xtab_count (xtab_after rules line) ≤ xtab_count rules + 1
count-by true gap rules line is gap_is = rw is (omega arith)
count-by false true rules line is gap_is =
    let one = one-record rules.at (begun_items rules.begun) (few-begun rules.begun) in
    rw is (rw gap_is (omega (arith, one.0, one.1)))
count-by false false rules line is gap_is =
    rw is (rw gap_is (omega (arith, length-with_text rules.opts (without_spaces line) rules.begun)))

pub count-xtab : (rules : XtabRules) (line : List ℕ) → xtab_count (xtab_after rules line) ≤ xtab_count rules + 1
count-xtab rules line = count-by (is_comment rules.opts.comments line) (is_gap line) rules line refl refl

pub count-line : (rules : BlockRules) (line : List ℕ) → count_of (after_line rules line) ≤ count_of rules + 1
count-line (by.Pprint rules) line = count-pprint rules.stopped rules (without_return line) refl
count-line (by.Xtab rules) line = count-xtab rules (without_return line)

-- the end of the file gives at most one record
gap-by : (passes gap : Bool) (rules : XtabRules) (line : List ℕ) → is_comment rules.opts.comments line ≡ passes → is_gap line ≡ gap
    → xtab_count (after_gap (xtab_after rules line)) ≤ xtab_count rules + 1
gap-by true gap rules line is gap_is =
    let one = one-record rules.at (begun_items rules.begun) (few-begun rules.begun) in
    rw is (omega (arith, one.0, one.1))
gap-by false true rules line is gap_is =
    let one = one-record rules.at (begun_items rules.begun) (few-begun rules.begun) in
    rw is (rw gap_is (omega (arith, one.0, one.1)))
gap-by false false rules line is gap_is =
    let begun = with_text rules.opts (without_spaces line) rules.begun in
    let one = one-record rules.at (begun_items begun) (few-begun begun) in
    rw is (rw gap_is (omega (arith, one.0, one.1)))

pprint-last : (rules : PprintRules) (line : List ℕ) → pprint_count (pprint_after_last rules line) ≤ pprint_count rules + 1
pprint-last rules [] = omega arith
pprint-last rules (b ∷ line) = count-pprint rules.stopped rules (b ∷ line) refl

xtab-last : (rules : XtabRules) (line : List ℕ) → xtab_count (xtab_after_last rules line) ≤ xtab_count rules + 1
xtab-last rules [] =
    let one = one-record rules.at (begun_items rules.begun) (few-begun rules.begun) in
    omega (arith, one.0, one.1)
xtab-last rules (b ∷ line) = gap-by (is_comment rules.opts.comments (b ∷ line)) (is_gap (b ∷ line)) rules (b ∷ line) refl refl

pub count-last : (rules : BlockRules) (line : List ℕ) → count_of (after_last rules line) ≤ count_of rules + 1
count-last (by.Pprint rules) line = pprint-last rules line
count-last (by.Xtab rules) line = xtab-last rules line

-- the numbers of the last record are among the counters
pub numbers-counted : (rules : BlockRules) → ((at_of rules).nr ≤ count_of rules) × ((at_of rules).fnr ≤ count_of rules)
numbers-counted (by.Pprint rules) = (omega arith, omega arith)
numbers-counted (by.Xtab rules) = (omega arith, omega arith)
