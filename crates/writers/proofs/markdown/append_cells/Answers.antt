use Rattle.std.proofs.Common.{ap, ◌∙◌, ◌++◌}
use Rattle.std.proofs.lemmas.Result.{on_ok_weaker}
use Rattle.text_columns.specs.Pprint.{between_bars}
use Rattle.writers.specs.Markdown.{bar_cell}
use Rattle.writers.proofs.Texts.{row-cells}
use Rattle.writers.proofs.markdown.append_cells.Goals as goal

pub returns : goal.returns
returns c =
    on_ok_weaker c.append_between_bars.result
    (λ is. is ∙ ap (λ cells. c.args.out.now ++ between_bars cells) (row-cells bar_cell c.args.part c.args.fields.now))
    c.append_between_bars.ensures
