use Rattle.std.proofs.Common.{ℕ, List, ap, ap₂, ◌∙◌, ◌∷◌, [], ◌++◌, map, append_assoc}
use Rattle.std.proofs.lemmas.Result.{on_ok_weaker}
use Rattle.mlr_spec.specs.Json.{joined}
use Rattle.mlr_spec.specs.Tree.{Tree}
use Rattle.writers.specs.Cells.{part_text}
use Rattle.writers.specs.Tsv.{tsv_field}
use Rattle.writers.proofs.Texts.{row-cells}
use Rattle.writers.proofs.tsv.append_tsv_line.Goals as goal

pub returns : goal.returns
returns c =
    let opts = c.args.rows.now.opts.now in
    let part = c.args.part in
    let r : List (List ℕ × Tree) = c.args.fields.now in
    let into : List ℕ = c.args.out.now in
    on_ok_weaker c.append_line.result
    (λ is. is ∙ ap₂ (λ s fields. (into ++ joined s (map (λ field. tsv_field (part_text part field)) fields)) ++ 10 ∷ []) c.as_slice.ensures c.fields.ensures
    ∙ append_assoc into (joined opts.ofs (map (λ field. tsv_field (part_text part field)) r)) (10 ∷ [])
    ∙ ap (λ cells. into ++ (joined opts.ofs cells ++ 10 ∷ [])) (row-cells tsv_field part r))
    c.append_line.ensures
