use Rattle.std.proofs.Common.{◌≡◌, ◌<◌, ℕ, List, ap, ◌∙◌, ◌∷◌, [], ◌++◌, length, map, get_or, append_assoc, arith}
use Rattle.std.proofs.lemmas.List.{length-map}
use Rattle.std.proofs.lemmas.Result.{on_ok_weaker}
use Rattle.mlr_spec.specs.Json.{joined}
use Rattle.mlr_spec.specs.Tree.{Tree}
use Rattle.writers.specs.Cells.{part_text, texts}
use Rattle.writers.specs.Csv.{csv_field, unless_stop}
use Rattle.writers.proofs.Plain.{plain-line}
use Rattle.writers.proofs.csv.append_csv_line.Goals as goal

pub returns : goal.returns
returns c =
    let opts = c.args.opts.now in
    let part = c.args.part in
    let r : List (List ℕ × Tree) = c.args.fields.now in
    let into : List ℕ = c.args.out.now in
    let s : ℕ = get_or c.as_slice-separator.result.now 0 0 in
    let one : length opts.ofs ≡ 1 = omega (arith, ap length c.as_slice-separator.ensures, c.if-separator-ne1.false) in
    let many : 1 < length (map (csv_field opts) (texts part r)) =
    omega (arith, length-map (texts part r) (csv_field opts), length-map r (part_text part), c.len.ensures.length, c.if-len-lt2.false) in
    on_ok_weaker c.append_marked_line.result
    (λ is. is ∙ ap (λ fields. (into ++ joined (s ∷ []) (map (λ field. unless_stop s (part_text part field)) fields)) ++ 10 ∷ []) c.fields.ensures
    ∙ append_assoc into (joined (s ∷ []) (map (λ field. unless_stop s (part_text part field)) r)) (10 ∷ [])
    ∙ ap (λ t. into ++ t) (plain-line opts c.if-opts.false one part r many s (ap (λ t. get_or t 0 0) c.as_slice-separator.ensures)))
    c.append_marked_line.ensures
