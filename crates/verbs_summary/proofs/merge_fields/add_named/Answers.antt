use Rattle.std.proofs.Common.{◌≡◌, ◌+◌, ◌++◌, ◌∷◌, [], take, ap, sym, subst, ◌∙◌}
use Rattle.std.proofs.lemmas.List.{take_more}
use Rattle.mlr_stats.specs.Kept.{Summarizes}
use Rattle.verbs_summary.specs.Merging.{values_named}
use Rattle.verbs_summary.proofs.Merging.{named-more}
use Rattle.verbs_summary.proofs.merge_fields.add_named.Goals as goal

pub loop-name-preserved : goal.loop-name-preserved
loop-name-preserved c = λ values keeps.
    let i = c.loop-name.name-index in
    let items = c.as_slice-name-items.result.now in
    let name = c.name-item.result in
    let fields = c.args.fields.now in
    let taken : take (i + 1) items ≡ take i items ++ name ∷ [] = take_more items i name c.loop-name-test.true ∙ ap (λ n. take i items ++ n ∷ []) (sym c.name-item.is) in
    subst (λ all. Summarizes c.args.statistics.now all c.add_named_value.new.summary)
    (named-more values (take i items) name fields ∙ ap (λ names. values ++ values_named names fields) (sym taken))
    (c.in_ok-add_named_value.ensures (values ++ values_named (take i items) fields) (c.loop-name.invariant values keeps))
