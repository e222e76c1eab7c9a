use Rattle.std.proofs.Common.{ap, sym, ◌∙◌}
use Rattle.std.proofs.lemmas.Result.{on_ok_weaker}
use Rattle.mlr_spec.specs.Infer.{tree_of_data}
use Rattle.read_csv.specs.OpenRow.{with_value}
use Rattle.read_csv.proofs.Escaping.{unescaped-from}
use Rattle.read_csv.proofs.tsv.push_escaped.Goals as goal

pub returns-in-None : goal.returns-in-None
returns-in-None c =
    on_ok_weaker c.push_plain.result
    (λ is. is ∙ ap (λ text. with_value c.args.row.now (tree_of_data c.args.infer text)) (sym (unescaped-from c.args.text.now c.in-None.ensures)))
    c.push_plain.ensures
