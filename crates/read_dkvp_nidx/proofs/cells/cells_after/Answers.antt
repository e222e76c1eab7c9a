use Rattle.std.proofs.Common.{◌++◌, ◌∷◌, [], ap, sym, ◌∙◌}
use Rattle.read_dkvp_nidx.specs.Cells.{cells_with}
use Rattle.read_dkvp_nidx.specs.Markdown.{bar_parts}
use Rattle.read_dkvp_nidx.proofs.Tables.{cells_with-more}
use Rattle.read_dkvp_nidx.proofs.cells.cells_after.Goals as goal

pub loop-part-preserved : goal.loop-part-preserved
loop-part-preserved c =
    let cells = c.loop-part.cells.items in
    let rest = c.in-Some.rest.now in
    ap (λ items. cells_with items (bar_parts 124 rest)) (c.in_ok-push.ensures.items ∙ ap (λ cell. cells ++ cell ∷ []) c.in_ok-cell_of.ensures)
    ∙ sym (cells_with-more cells c.loop-part.left.now c.in-Some.part.now rest c.in-Some.ensures) ∙ c.loop-part.invariant
