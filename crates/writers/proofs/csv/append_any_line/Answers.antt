use Rattle.std.proofs.Common.{◌≡◌, ap, ap₂, sym, ◌∙◌, ◌∷◌, [], ◌++◌, map, append_assoc}
use Rattle.mlr_spec.specs.Json.{joined}
use Rattle.writers.specs.Cells.{part_text, texts}
use Rattle.writers.specs.Csv.{csv_field, csv_line, never_empty}
use Rattle.writers.proofs.Texts.{last-part, line-empty, line-some, row-cells}
use Rattle.writers.proofs.csv.append_any_line.Goals.{then-len-before+in_ok-append, else-len-before}
use Rattle.writers.proofs.csv.append_any_line.Goals as goal

pub returns : goal.returns
returns c =
    let opts = c.args.opts.now in
    let r = c.args.fields.now in
    let into = c.args.out.now in
    let line = joined opts.ofs (map (csv_field opts) (texts c.args.part r)) in
    let prefix : c.append_fields.new.out ≡ into ++ line =
    c.in_ok-append_fields.ensures ∙ ap₂ (λ s fields. into ++ joined s (map (λ field. csv_field opts (part_text c.args.part field)) fields)) c.as_slice.ensures c.fields.ensures
    ∙ ap (λ fields. into ++ joined opts.ofs fields) (row-cells (csv_field opts) c.args.part r) in
    let whole : c.if-len-before.out ≡ into ++ never_empty line =
    elim c.if-len-before.branch [
      | then-len-before+in_ok-append w ↦ line-empty into line c.append_fields.new.out c.if-len-before.out prefix (sym c.len.ensures ∙ w.if-len-before.true ∙ c.len-before.ensures) (w.out-is ∙ w.in_ok-append.ensures.appended)
      | else-len-before w ↦ w.out-is ∙ line-some into line c.append_fields.new.out prefix (λ e. w.if-len-before.false (c.len.ensures ∙ e ∙ sym c.len-before.ensures))
    ] in
    last-part c.push.result c.push.new.self c.if-len-before.out (10 ∷ []) (into ++ csv_line opts (texts c.args.part r)) c.push.ensures
    (ap (λ t. t ++ 10 ∷ []) whole ∙ append_assoc into (never_empty line) (10 ∷ []))
