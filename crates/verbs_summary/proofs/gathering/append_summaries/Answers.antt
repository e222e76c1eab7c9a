use Rattle.std.proofs.Common.{◌≡◌, ◌<◌, ◌++◌, ℕ, List, [], Some, drop, length, get_or, slice_get, ap, sym, subst, ◌∙◌, arith}
use Rattle.std.specs.List.{flat_map}
use Rattle.std.proofs.Math.ListN.{drop_of_length-le}
use Rattle.std.proofs.lemmas.List.{append-nil}
use Rattle.std.proofs.lemmas.Option.{get_or_from_slice_get, slice_get-get_or}
use Rattle.mlr_record.specs.Fields.{pairs_of}
use Rattle.mlr_stats.specs.Kept.{Arranges}
use Rattle.mlr_stats.specs.Statistic.{fields_of}
use Rattle.mlr_stats.specs.declared.summary.Summary.{Summary}
use Rattle.verbs_base.specs.Records.{Fields}
use Rattle.verbs_summary.proofs.Keeping.{keeps-at}
use Rattle.verbs_summary.proofs.Shortening.{made-next}
use Rattle.verbs_summary.proofs.gathering.append_summaries.Goals as goal

pub loop-place-preserved : goal.loop-place-preserved
loop-place-preserved c = λ values keeps.
    let loop = c.loop-place in
    let i = loop.place in
    let accumulators = c.args.statistics.now in
    let names = c.args.names.now in
    let summaries = c.args.summaries.now in
    let name = get_or names i [] in
    let Q : List ℕ → Summary → Type 0 = λ name. Arranges accumulators (values name) in
    let made : List ℕ → Fields = λ name. fields_of accumulators name (values name) in
    let below : i < length names = omega (arith, c.loop-place-test.true) in
    let at : slice_get names i ≡ Some name = slice_get-get_or names i [] below in
    let found = keeps-at Q names summaries keeps i name at in
    let kept : found.0 ≡ c.index-summaries-place.result = sym (c.index-summaries-place.is ∙ get_or_from_slice_get summaries i found.0 c.index-summaries-place.result found.1) in
    let named : c.as_slice.result.now ≡ name = c.as_slice.ensures ∙ c.index-names-place.is ∙ get_or_from_slice_get names i name c.index-names-place.result at in
    let appends = c.in_ok-append_all.ensures (values name) (subst (Q name) kept found.2) in
    made-next made names i name (pairs_of loop.into.items) (pairs_of c.append_all.new.into.items) at (appends ∙ ap (λ n. pairs_of loop.into.items ++ fields_of accumulators n (values name)) named)
    ∙ loop.invariant values keeps

pub returns : goal.returns
returns c = λ values keeps.
    let loop = c.loop-place in
    let names = c.args.names.now in
    let made : List ℕ → Fields = λ name. fields_of c.args.statistics.now name (values name) in
    let none : drop loop.place names ≡ [] = drop_of_length-le names (omega (arith, c.loop-place-test.false)) in
    sym (append-nil (pairs_of loop.into.items)) ∙ sym (ap (λ rest. pairs_of loop.into.items ++ flat_map made rest) none) ∙ loop.invariant values keeps
