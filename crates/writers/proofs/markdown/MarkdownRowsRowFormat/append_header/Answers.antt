use Rattle.std.proofs.Common.{ap, ◌∙◌, ◌++◌, append_assoc, map, codes}
use Rattle.std.proofs.lemmas.Result.{on_ok_weaker}
use Rattle.writers.specs.declared.form.Part.TheVariants.{Keys}
use Rattle.writers.specs.Cells.{texts}
use Rattle.text_columns.specs.Pprint.{between_bars}
use Rattle.writers.specs.Markdown.{markdown_line}
use Rattle.writers.proofs.Texts.{dashes-cells}
use Rattle.writers.proofs.markdown.MarkdownRowsRowFormat.append_header.Goals as goal

pub returns : goal.returns
returns c =
    let r = c.args.fields.now in
    let into = c.args.out.now in
    let line = markdown_line (texts Keys r) in
    on_ok_weaker c.append_between_bars.result
    (λ is. is ∙ ap (λ t. t ++ between_bars (map (λ field. codes "---") r)) c.in_ok-append_cells.ensures
    ∙ append_assoc into line (between_bars (map (λ field. codes "---") r))
    ∙ ap (λ cells. into ++ (line ++ between_bars cells)) (dashes-cells r))
    c.append_between_bars.ensures
