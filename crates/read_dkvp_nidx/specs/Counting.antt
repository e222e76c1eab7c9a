-- A line raises the counters by at most one, since it gives at most one item.
use Rattle.std.specs.Prelude.{◌≡◌, ℕ, ◌+◌, ◌≤◌, ◌==◌, Bool, true, false, if◌then◌else◌, List, [], ◌∷◌, length, Option, Some, None}
use Rattle.std.specs.List.{list_all}
use Rattle.std.proofs.Common.{arith, refl}
use Rattle.mlr_lines.specs.Lines.{without_return}
use Rattle.mlr_event.specs.declared.event.Ctx.{Ctx}
use Rattle.mlr_event.specs.declared.names.FileRef.{FileRef}
use Rattle.mlr_event.specs.declared.options.Comments.{Comments}
use Rattle.mlr_event.specs.declared.options.Comments.TheVariants.{Keep, Skip, Pass}
use Rattle.mlr_event.specs.declared.options.Format.{Format}
use Rattle.mlr_event.specs.declared.options.Format.TheVariants as format
use Rattle.mlr_event.specs.declared.options.ReadOpts.{ReadOpts}
use Rattle.mlr_event.specs.Reading.{Item, comment, fields, fault, is_comment, comment_items, ctx_after}
use Rattle.read_dkvp_nidx.specs.declared.rules.LineRules.{LineRules}
use Rattle.read_dkvp_nidx.specs.Dkvp.{dkvp_record}
use Rattle.read_dkvp_nidx.specs.Nidx.{nidx_record, words_of}
use Rattle.read_dkvp_nidx.specs.Markdown.{cells_of, is_rule}
use Rattle.read_dkvp_nidx.specs.MarkdownLines as markdown
use Rattle.read_dkvp_nidx.specs.Rules.{after_last, after_line, rules_after, count_of, items_by, line_items, plain_items}

few-either : (test : Bool) (items more : List Item) → length items ≤ 1 → length more ≤ 1 → length (if test then items else more) ≤ 1
few-either true items more few few_more = few
few-either false items more few few_more = few_more

few-comments : (comments : Comments) (line : List ℕ) → length (comment_items comments line) ≤ 1
few-comments Keep line = omega arith
few-comments (Skip prefix) line = omega arith
few-comments (Pass prefix) line = omega arith

few-dkvp : (opts : ReadOpts) (line : List ℕ) → length (dkvp_record opts line) ≤ 1
few-dkvp opts [] = omega arith
few-dkvp opts (b ∷ line) = omega arith

few-nidx : (opts : ReadOpts) (words : List (List ℕ)) → length (nidx_record opts words) ≤ 1
few-nidx opts [] = omega arith
few-nidx opts (word ∷ words) = omega arith

few-row : (opts : ReadOpts) (file : FileRef) (n : ℕ) (block : markdown.Block) (cells : Option (List (List ℕ))) → length (markdown.row_items opts file n block cells) ≤ 1
few-row opts file n block None = omega arith
few-row opts file n markdown.outside (Some cells) = omega arith
few-row opts file n (markdown.under header) (Some cells) =
    few-either (list_all is_rule cells) _ _ (few-either (length cells == length header) _ _ (omega arith) (omega arith)) (omega arith)
few-row opts file n (markdown.within header) (Some cells) = few-either (length cells == length header) _ _ (omega arith) (omega arith)

few-table : (opts : ReadOpts) (file : FileRef) (n : ℕ) (block : markdown.Block) (line : List ℕ) → length (markdown.markdown_row opts file n block line) ≤ 1
few-table opts file n block [] = omega arith
few-table opts file n block (b ∷ line) = few-row opts file n block (cells_of (b ∷ line))

few-plain : (as_format : Format) (opts : ReadOpts) (file : FileRef) (n : ℕ) (block : markdown.Block) (line : List ℕ) → length (plain_items as_format opts file n block line) ≤ 1
few-plain format.Dkvp opts file n block line = few-dkvp opts line
few-plain format.Nidx opts file n block line = few-nidx opts (words_of opts.ifs line)
few-plain format.Markdown opts file n block line = few-table opts file n block line
few-plain _ opts file n block line = omega arith

few-items : (opts : ReadOpts) (file : FileRef) (n : ℕ) (block : markdown.Block) (line : List ℕ) → length (line_items opts file n block line) ≤ 1
few-items opts file n block line =
    few-either (is_comment opts.comments line) _ _ (few-comments opts.comments line) (few-plain opts.format opts file n block line)

one-record : (at : Ctx) (items : List Item) → length items ≤ 1 → ((ctx_after at items).nr ≤ at.nr + 1) × ((ctx_after at items).fnr ≤ at.fnr + 1)
one-record at [] few = (omega arith, omega arith)
one-record at (comment text ∷ []) few = (omega arith, omega arith)
one-record at (fields pairs ∷ []) few = (omega arith, omega arith)
one-record at (fault f ∷ items) few = (omega arith, omega arith)
one-record at (comment text ∷ item ∷ items) few = absurd (omega arith)
one-record at (fields pairs ∷ item ∷ items) few = absurd (omega arith)

count-following : (stopped : Bool) (rules : LineRules) (line : List ℕ) → rules.stopped ≡ stopped → count_of (rules_after rules line) ≤ count_of rules + 1
count-following true rules line is = rw is (omega arith)
count-following false rules line is =
    let one = one-record rules.at (items_by rules line) (few-items rules.opts rules.file rules.number _ line) in
    rw is (omega (arith, one.0, one.1))

pub count-line : (rules : LineRules) (line : List ℕ) → count_of (after_line rules line) ≤ count_of rules + 1
count-line rules line = count-following rules.stopped rules (without_return line) refl

pub count-last : (rules : LineRules) (line : List ℕ) → count_of (after_last rules line) ≤ count_of rules + 1
count-last rules [] = omega arith
count-last rules (b ∷ line) = count-following rules.stopped rules (b ∷ line) refl
