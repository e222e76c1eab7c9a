use Rattle.std.proofs.Common.{◌≡◌, ℕ, ◌∙◌, ap, arith, length, replicate}
use Rattle.std.specs.Prelude.{vec_len}
use Rattle.text_columns.specs.Chunks.{first_line}
use Rattle.text_columns.specs.Columns.{widened}
use Rattle.text_columns.proofs.Widening.{all-written, no-widths, widened-length, widths-first}
use Rattle.text_columns.proofs.Written.{line-count}
use Rattle.text_columns.proofs.widths.put_widths.Goals as goal

pub returns : goal.returns
returns c =
    let line = first_line c.args.line.now in
    let count = c.first_length-count.result.0 in
    let widths = c.resize.new.self in
    let none : widths.items ≡ replicate {A = ℕ} (length line) 0 =
    c.in_ok-resize.ensures.items
    ∙ no-widths count c.clear.new.self.items (vec_len c.clear.new.self) (length line) c.clear.ensures.items c.clear.ensures.len (c.first_length-count.ensures.number ∙ line-count c.args.line.now) in
    let same : c.widen.new.widths ≡ widened line widths.items = c.widen.ensures ∙ ap (widened line) c.deref_mut.ensures.value in
    let long : length c.widen.new.widths ≡ length widths.items = ap length same ∙ widened-length line widths.items in
    all-written widths.items c.widen.new.widths widths.len long (omega (arith, widths.ok)) ∙ same ∙ ap (widened line) none ∙ widths-first line
