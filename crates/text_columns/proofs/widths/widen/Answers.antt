use Rattle.std.proofs.Common.{◌≡◌, ◌-◌, ◌<◌, ◌∙◌, ap, ap₂, arith, length, refl, sym}
use Rattle.std.specs.Prelude.{max}
use Rattle.std.proofs.lemmas.List.{length-set}
use Rattle.text_columns.specs.Chunks.{cells}
use Rattle.text_columns.specs.Columns.{widened}
use Rattle.text_columns.specs.Pprint.{cell_text}
use Rattle.text_columns.specs.Width.{code_points}
use Rattle.text_columns.proofs.Widening.{widen-done, widen-next}
use Rattle.text_columns.proofs.widths.widen.Goals as goal

pub loop-column-init : goal.loop-column-init
loop-column-init c =
    let count = c.first_length-count.result.0 in
    let all : count - 0 ≡ count = omega arith in
    record { done = ap (λ n. widened (cells n c.first_length-count.result.1.now) c.args.widths.now) all; same = refl }

pub loop-column-preserved : goal.loop-column-preserved
loop-column-preserved c =
    let count = c.first_length-count.result.0 in
    let column = c.loop-column.column in
    let widths = c.loop-column.widths in
    let below : column < count = omega (arith, c.loop-column-test.true, c.min-column-end.ensures) in
    let within : column < length widths = omega (arith, c.loop-column-test.true, c.min-column-end.ensures, c.loop-column.auto.widths) in
    record {
      done =
          widen-next count column c.loop-column.rest.now widths c.first_cell-length.result.2.now c.max.result below within c.first_cell-length.ensures.rest
          (c.max.ensures ∙ ap (max _) (c.cell_width.ensures ∙ ap (λ text. code_points (cell_text text)) c.first_cell-length.ensures.text))
          ∙ c.loop-column.invariant.done;
      same = length-set widths column c.max.result ∙ c.loop-column.invariant.same;
    }

pub returns : goal.returns
returns c =
    let count = c.first_length-count.result.0 in
    sym (widen-done count c.loop-column.column c.loop-column.rest.now c.loop-column.widths (omega (arith, c.loop-column-test.false, c.min-column-end.ensures, c.loop-column.auto.widths)))
    ∙ c.loop-column.invariant.done
    ∙ ap₂ (λ n bytes. widened (cells n bytes) c.args.widths.now) c.first_length-count.ensures.number c.first_length-count.ensures.rest
