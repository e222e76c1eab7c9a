use Rattle.std.proofs.Common.{◌≡◌, ◌<◌, ◌≤◌, ℕ, List, [], Some, length, get_or, set, slice_get, sym, subst, add-one, arith}
use Rattle.std.proofs.lemmas.Option.{slice_get-get_or}
use Rattle.mlr_stats.specs.Kept.{Arranges, Summarizes}
use Rattle.mlr_stats.specs.declared.summary.Summary.{Summary}
use Rattle.verbs_summary.proofs.Keeping.{Partly, partly-all, partly-at, partly-many, partly-set}
use Rattle.verbs_summary.proofs.gathering.sort_all.Goals as goal

pub loop-place-preserved : goal.loop-place-preserved
loop-place-preserved c = λ accumulators values names keeps.
    let loop = c.loop-place in
    let i = loop.place in
    let P : List ℕ → Summary → Type 0 = λ name. Summarizes accumulators (values name) in
    let Q : List ℕ → Summary → Type 0 = λ name. Arranges accumulators (values name) in
    let partly = loop.invariant accumulators values names keeps in
    let below : i < length names = omega (arith, c.loop-place-test.true, loop.auto.summaries, loop.auto.place-end, partly-many P Q i names loop.summaries partly) in
    let name = get_or names i [] in
    let at : slice_get names i ≡ Some name = slice_get-get_or names i [] below in
    let old = partly-at P Q i names loop.summaries partly name at c.index-summaries-place.result in
    subst (λ n. Partly P Q n names (set loop.summaries i c.sort.new.self)) (sym (add-one i))
    (partly-set P Q i names loop.summaries partly name at c.sort.new.self (c.in_ok-sort.ensures accumulators (values name) old))

pub returns : goal.returns
returns c = λ accumulators values names keeps.
    let loop = c.loop-place in
    let P : List ℕ → Summary → Type 0 = λ name. Summarizes accumulators (values name) in
    let Q : List ℕ → Summary → Type 0 = λ name. Arranges accumulators (values name) in
    let partly = loop.invariant accumulators values names keeps in
    let all : length names ≤ loop.place = omega (arith, c.loop-place-test.false, loop.auto.summaries, loop.auto.place-end, partly-many P Q loop.place names loop.summaries partly) in
    partly-all P Q loop.place names loop.summaries partly all
