use Rattle.std.proofs.Common.{cond, drop, ap, sym, ◌∙◌}
use Rattle.mlr_spec.specs.Infer.{tree_of_data}
use Rattle.mlr_record.specs.Parts.{first_part}
use Rattle.read_csv.specs.Csv.{before_next}
use Rattle.read_csv.specs.OpenRow.{quoted_row, with_value}
use Rattle.read_csv.proofs.Readings.{part-is}
use Rattle.read_csv.proofs.csv.take_field.Goals as goal

pub returns-clause-row : goal.returns-clause-row
returns-clause-row c =
    let opts = c.args.opts.now in
    let row = c.args.row.now in
    let text = c.args.text.now in
    let part = c.next_part.ensures.part ∙ ap (λ s. first_part s text) c.as_slice.ensures ∙ part-is opts.ifs text in
    c.in_ok-push_plain.ensures
    ∙ ap (λ t. with_value row (tree_of_data opts.infer t)) part
    ∙ sym (ap (λ quoted. cond quoted (quoted_row opts.ifs row (drop 1 text)) (with_value row (tree_of_data opts.infer (before_next opts.ifs text)))) (sym c.starts_quoted.ensures ∙ c.if-starts_quoted.false))
