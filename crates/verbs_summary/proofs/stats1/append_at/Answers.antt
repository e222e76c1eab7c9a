use Rattle.std.proofs.Common.{◌≡◌, ℕ, Bor, ◌++◌, List, Some, None, ap, sym, subst, ◌∙◌}
use Rattle.std.specs.Option.{option_map}
use Rattle.std.proofs.lemmas.List.{append-nil}
use Rattle.std.proofs.lemmas.Result.{on_ok_weaker}
use Rattle.mlr_record.specs.Fields.{pairs_of}
use Rattle.mlr_stats.specs.Statistic.{fields_of}
use Rattle.mlr_stats.specs.declared.summary.Summary.{Summary}
use Rattle.stat_base.specs.Values.{values_of}
use Rattle.verbs_summary.specs.KeptOfGroup.{ArrangesValues}
use Rattle.verbs_summary.proofs.Keeping.{keeps-at}
use Rattle.verbs_summary.proofs.stats1.append_at.Goals as goal

same : {A : Type 0} (x y : A) → Some y ≡ Some x → y ≡ x
same x y is = cc

pub returns-in_default-summary_at : goal.returns-in_default-summary_at
returns-in_default-summary_at c = λ rows name keeps at.
    let found = keeps-at (ArrangesValues c.args.options.now rows) c.args.options.now.names c.args.summaries.now keeps c.args.place name at in
    absurd (let e : Some found.0 ≡ None = sym found.1 ∙ sym c.summary_at.ensures ∙ ap (option_map (λ (s : Bor Summary). s.now)) c.in_default-summary_at.is in cc)

pub returns : goal.returns
returns c =
    on_ok_weaker c.append_all.result
    (λ appends rows name keeps at.
    let options = c.args.options.now in
    let found = keeps-at (ArrangesValues options rows) options.names c.args.summaries.now keeps c.args.place name at in
    let named = same name c.in-Some.name.now (sym (ap (option_map (λ (n : Bor (List ℕ)). n.now)) c.in-Some.is) ∙ c.at.ensures ∙ at) in
    let kept = same found.0 c.in-Some-summary_at.summary.now (sym (ap (option_map (λ (s : Bor Summary). s.now)) c.in-Some-summary_at.is) ∙ c.summary_at.ensures ∙ found.1) in
    appends (values_of name rows) (subst (ArrangesValues options rows name) (sym kept) found.2)
    ∙ ap (λ n. pairs_of c.args.into.now.items ++ fields_of options.statistics n (values_of name rows)) (c.as_slice.ensures ∙ named)
    ∙ ap (λ fields. pairs_of c.args.into.now.items ++ fields) (sym (append-nil (fields_of options.statistics name (values_of name rows)))))
    c.append_all.ensures
