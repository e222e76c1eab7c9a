use Rattle.std.proofs.Common.{◌+◌, ap, arith, drop, sym, ◌∙◌}
use Rattle.std.specs.Ordering.{ordering_then}
use Rattle.verbs_sort.specs.Kept.{compare_values, keys_in, trees_in}
use Rattle.verbs_sort.proofs.Comparing.{compare-from, tied, told-apart}
use Rattle.verbs_sort.proofs.Keeping.{dropped}
use Rattle.verbs_sort.proofs.sort.compare_values.Goals as goal

pub returns-then-ne : goal.returns-then-ne
returns-then-ne c =
    let i = c.loop-place.place in
    let keys = c.args.keys.now in
    let key = c.index-keys-place.result in
    let rest = dropped keys i key (omega arith) c.index-keys-place.is in
    let from = compare-from (keys_in (drop i keys)) (key.order, key.name) (keys_in (drop (i + 1) keys)) (trees_in c.args.values.now) (trees_in c.args.others.now) i (ap keys_in rest) in
    let more = compare_values (keys_in (drop (i + 1) keys)) (drop (i + 1) (trees_in c.args.values.now)) (drop (i + 1) (trees_in c.args.others.now)) in
    told-apart c.compare_at-order.result more (sym c.ne.ensures ∙ c.if-ne.true)
    ∙ ap (λ o. ordering_then o more) c.compare_at-order.ensures
    ∙ sym from
    ∙ c.loop-place.invariant

pub loop-place-preserved : goal.loop-place-preserved
loop-place-preserved c =
    let i = c.loop-place.place in
    let keys = c.args.keys.now in
    let key = c.index-keys-place.result in
    let rest = dropped keys i key (omega arith) c.index-keys-place.is in
    let from = compare-from (keys_in (drop i keys)) (key.order, key.name) (keys_in (drop (i + 1) keys)) (trees_in c.args.values.now) (trees_in c.args.others.now) i (ap keys_in rest) in
    let more = compare_values (keys_in (drop (i + 1) keys)) (drop (i + 1) (trees_in c.args.values.now)) (drop (i + 1) (trees_in c.args.others.now)) in
    tied c.compare_at-order.result more (sym c.ne.ensures ∙ c.if-ne.false)
    ∙ ap (λ o. ordering_then o more) c.compare_at-order.ensures
    ∙ sym from
    ∙ c.loop-place.invariant
