use Rattle.std.proofs.Common.{◌≡◌, ◌∷◌, ◌++◌, ℕ, List, [], ap, sym, subst, ◌∙◌}
use Rattle.std.proofs.lemmas.Option.{get_or_from_slice_get}
use Rattle.std.proofs.lemmas.Result.{on_ok_weaker}
use Rattle.mlr_groups.specs.Keys.{entered}
use Rattle.mlr_stats.specs.Kept.{Summarizes}
use Rattle.mlr_stats.specs.declared.summary.Summary.{Summary}
use Rattle.mlr_value.specs.Value.{tree_of}
use Rattle.verbs_base.specs.Choosing.{once}
use Rattle.verbs_summary.proofs.Keeping.{keeps-at}
use Rattle.verbs_summary.proofs.Shortening.{keeps-value, once-entered}
use Rattle.verbs_summary.proofs.gathering.Gathered.take_value.Goals as goal

pub returns-clause-summaries : goal.returns-clause-summaries
returns-clause-summaries c =
    on_ok_weaker c.add.result
    (λ adds given values are nil keeps.
    let accumulators = c.args.statistics.now in
    let short = c.args.short in
    let names = c.place_of.new.self.names in
    let summaries = c.place_of.new.self.summaries.items in
    let place = c.in_ok-place.place in
    let old = c.index_mut.result.now in
    let P : List ℕ → Summary → Type 0 = λ name. Summarizes accumulators (values name) in
    let now : names ≡ once (given ++ short ∷ []) = c.in_ok-place.ensures.names ∙ ap (λ names. entered names short) are ∙ once-entered given short in
    let kept = c.in_ok-place.ensures.summaries values nil keeps in
    let found = keeps-at P names summaries kept place short c.in_ok-place.ensures.place in
    let same : found.0 ≡ old = sym (c.index_mut.ensures.value ∙ get_or_from_slice_get summaries place found.0 old found.1) in
    keeps-value accumulators (given ++ short ∷ []) values short (tree_of c.args.value.now) names summaries place c.add.new.self now c.in_ok-place.ensures.place kept
    (adds (values short) (subst (P short) same found.2)))
    c.add.ensures
