-- The events of one line, and the state after it.
use Rattle.std.specs.Prelude.{◌≡◌, ℕ, ◌+◌, false, if◌then◌else◌, List, [], ◌∷◌, ◌++◌, max}
use Rattle.mlr_lines.specs.Lines.{without_return}
use Rattle.mlr_event.specs.declared.event.Ctx.{Ctx}
use Rattle.mlr_event.specs.declared.event.Event.{Event}
use Rattle.mlr_event.specs.declared.names.FileRef.{FileRef}
use Rattle.mlr_event.specs.declared.options.Format.{Format}
use Rattle.mlr_event.specs.declared.options.Format.TheVariants as format
use Rattle.mlr_event.specs.declared.options.ReadOpts.{ReadOpts}
use Rattle.mlr_event.specs.Reading.{Item, is_comment, comment_items, events_of, ctx_after}
use Rattle.mlr_event.specs.Stream.{has_fault}
use Rattle.read_dkvp_nidx.specs.declared.block.Block.TheVariants.{Outside}
use Rattle.read_dkvp_nidx.specs.declared.rules.LineRules.{LineRules}
use Rattle.read_dkvp_nidx.specs.Dkvp.{dkvp_record}
use Rattle.read_dkvp_nidx.specs.Nidx.{nidx_record, words_of}
use Rattle.read_dkvp_nidx.specs.MarkdownLines as markdown
use Rattle.read_dkvp_nidx.specs.Row.{block_of, place_of}

-- the items of a line without its line ending that isn't a comment, and the place of the next line
abbrev pub plain_items : Format → ReadOpts → FileRef → ℕ → markdown.Block → List ℕ → List Item
plain_items format.Dkvp opts file n block line = dkvp_record opts line
plain_items format.Nidx opts file n block line = nidx_record opts (words_of opts.ifs line)
plain_items format.Markdown opts file n block line = markdown.markdown_row opts file n block line
plain_items _ opts file n block line = []

abbrev pub plain_block : Format → markdown.Block → List ℕ → markdown.Block
plain_block format.Markdown block line = markdown.block_after block line
plain_block _ block line = block

-- the items of a line without its line ending, and the place of the next line
abbrev pub line_items : ReadOpts → FileRef → ℕ → markdown.Block → List ℕ → List Item
line_items opts file n block line =
    if is_comment opts.comments line then comment_items opts.comments line else plain_items opts.format opts file n block line

abbrev pub line_block : ReadOpts → markdown.Block → List ℕ → markdown.Block
line_block opts block line = if is_comment opts.comments line then block else plain_block opts.format block line

-- the items of lines without their line endings, of which the first has number n
abbrev pub items_from : ReadOpts → FileRef → ℕ → markdown.Block → List (List ℕ) → List Item
items_from opts file n block [] = []
items_from opts file n block (line ∷ lines) = line_items opts file n block line ++ items_from opts file (n + 1) (line_block opts block line) lines

-- the items of the next line
abbrev pub items_by : LineRules → List ℕ → List Item
items_by rules line = line_items rules.opts rules.file rules.number (block_of rules.block) line

-- the state after a line that isn't a comment, except for the line number
abbrev pub after_row : LineRules → List ℕ → LineRules
after_row rules line =
    let items = plain_items rules.opts.format rules.opts rules.file rules.number (block_of rules.block) line in
    record rules {
      block = place_of (plain_block rules.opts.format (block_of rules.block) line);
      at = ctx_after rules.at items;
      stopped = has_fault items;
    }

-- the state after a line without its line ending, and its events; after a fault there are none
abbrev pub rules_after : LineRules → List ℕ → LineRules
rules_after rules line =
    if rules.stopped then rules else
    record rules {
      number = rules.number + 1;
      block = place_of (line_block rules.opts (block_of rules.block) line);
      at = ctx_after rules.at (items_by rules line);
      stopped = has_fault (items_by rules line);
    }

abbrev pub line_events : LineRules → List ℕ → List Event
line_events rules line = if rules.stopped then [] else events_of rules.at (items_by rules line)

-- the state after an ended line, and its events
abbrev pub after_line : LineRules → List ℕ → LineRules
after_line rules line = rules_after rules (without_return line)

abbrev pub gives_line : LineRules → List ℕ → List Event
gives_line rules line = line_events rules (without_return line)

-- the state after a last line without LF, and its events; none if the rest of the file is empty
abbrev pub after_last : LineRules → List ℕ → LineRules
after_last rules [] = rules
after_last rules (b ∷ line) = rules_after rules (b ∷ line)

abbrev pub gives_last : LineRules → List ℕ → List Event
gives_last rules [] = []
gives_last rules (b ∷ line) = line_events rules (b ∷ line)

-- the largest of the counters
abbrev pub count_of : LineRules → ℕ
count_of rules = max rules.number (max rules.at.nr rules.at.fnr)

-- the state at the start of a file
pub record Begins (rules : LineRules) (opts : ReadOpts) (file : FileRef) (start : Ctx) : Type 0 where
  pub opts_are : rules.opts ≡ opts
  pub file_is : rules.file ≡ file
  pub number_is : rules.number ≡ 1
  pub block_is : rules.block ≡ Outside
  pub at_is : rules.at ≡ start
  pub goes_on : rules.stopped ≡ false
