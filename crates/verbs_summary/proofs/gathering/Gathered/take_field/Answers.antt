use Rattle.std.proofs.Common.{◌∷◌, ◌++◌, ℕ, List, [], if◌then◌else◌, ap, sym, subst, ◌∙◌}
use Rattle.std.specs.List.{filter_map}
use Rattle.std.specs.Str.{bytes_eq}
use Rattle.std.proofs.lemmas.Result.{on_ok_weaker}
use Rattle.mlr_event.specs.Reading.{is_among}
use Rattle.mlr_groups.specs.Keys.{entered}
use Rattle.mlr_record.specs.Fields.{pair_of}
use Rattle.mlr_spec.specs.Tree.{Tree}
use Rattle.mlr_stats.specs.Kept.{Summarizes}
use Rattle.verbs_summary.specs.Shortened.{shortened, values_of_short}
use Rattle.verbs_summary.proofs.Shortening.{keeps-each, names-more, names-same, no-values, values-more, values-same}
use Rattle.verbs_summary.proofs.gathering.Gathered.take_field.Goals as goal

pub returns-in_default-clause-names : goal.returns-in_default-clause-names
returns-in_default-clause-names c = λ before are.
    let lacks = ap (shortened c.args.texts.now) (sym c.as_slice.ensures) ∙ sym c.in_ok-short.ensures ∙ c.in_default.is in
    are ∙ names-same c.args.texts.now before (pair_of c.args.field.now) lacks

pub returns-in_default-clause-summaries : goal.returns-in_default-clause-summaries
returns-in_default-clause-summaries c = λ before are keeps.
    let texts = c.args.texts.now in
    let accumulators = c.args.statistics.now in
    let pair = pair_of c.args.field.now in
    let lacks = ap (shortened texts) (sym c.as_slice.ensures) ∙ sym c.in_ok-short.ensures ∙ c.in_default.is in
    keeps-each (λ name. Summarizes accumulators (values_of_short texts before name)) (λ name. Summarizes accumulators (values_of_short texts (before ++ pair ∷ []) name)) c.args.self.now.names c.args.self.now.summaries.items
    (λ name summary kept. subst (λ vs. Summarizes accumulators vs summary) (values-same texts before pair name lacks) kept)
    keeps

pub returns-clause-names : goal.returns-clause-names
returns-clause-names c =
    on_ok_weaker c.take_value.result
    (λ is before are.
    let texts = c.args.texts.now in
    let holds = ap (shortened texts) (sym c.as_slice.ensures) ∙ sym c.in_ok-short.ensures ∙ c.in-Some.is in
    is ∙ ap (λ names. entered names c.in-Some.short) are ∙ names-more texts before (pair_of c.args.field.now) c.in-Some.short holds)
    c.take_value.ensures.names

pub returns-clause-summaries : goal.returns-clause-summaries
returns-clause-summaries c =
    on_ok_weaker c.take_value.result
    (λ takes before are keeps.
    let texts = c.args.texts.now in
    let accumulators = c.args.statistics.now in
    let pair = pair_of c.args.field.now in
    let short = c.in-Some.short in
    let values = values_of_short texts before in
    let holds = ap (shortened texts) (sym c.as_slice.ensures) ∙ sym c.in_ok-short.ensures ∙ c.in-Some.is in
    keeps-each (λ name. Summarizes accumulators (values name ++ (if bytes_eq short name then pair.1 ∷ [] else [])))
    (λ name. Summarizes accumulators (values_of_short texts (before ++ pair ∷ []) name)) c.take_value.new.self.names c.take_value.new.self.summaries.items
    (λ name summary kept. subst (λ vs. Summarizes accumulators vs summary) (values-more texts before pair short name holds) kept)
    (takes (filter_map (λ (pair : List ℕ × Tree). shortened texts pair.0) before) values are
    (λ none. no-values texts before short (ap (λ names. is_among names short) (sym are) ∙ none)) keeps))
    c.take_value.ensures.summaries
