use Rattle.std.proofs.Common.{◌≡◌, ◌+◌, ◌∷◌, drop, ap, sym, ◌∙◌, arith}
use Rattle.std.specs.List.{filter_map, zip}
use Rattle.std.proofs.lemmas.List.{drop_more}
use Rattle.mlr_spec.specs.Pairs.{put_each}
use Rattle.verbs_join.specs.Join.{joined_field}
use Rattle.verbs_join.proofs.Joining.{joined-next}
use Rattle.verbs_join.proofs.pairing.put_joined.Goals as goal

pub loop-place-preserved : goal.loop-place-preserved
loop-place-preserved c =
    let left = c.args.left.now in
    let outputs = c.args.options.now.output in
    let names = c.args.options.now.left in
    let loop = c.loop-place in
    let p = loop.place in
    let output = c.output-item.result in
    let items = c.as_slice-output-items.ensures in
    let next : drop p outputs ≡ output ∷ drop (p + 1) outputs =
    ap (drop p) (sym items) ∙ drop_more c.as_slice-output-items.result.now p output (omega (arith, c.loop-place-test.true))
    ∙ ap (λ first. first ∷ drop (p + 1) c.as_slice-output-items.result.now) (sym c.output-item.is)
    ∙ ap (λ items. output ∷ drop (p + 1) items) items in
    ap (λ into. put_each into (filter_map (joined_field left) (zip (drop (p + 1) outputs) (drop (p + 1) names)))) c.in_ok-put_joined_field.ensures
    ∙ joined-next left loop.into output (drop (p + 1) outputs) p names
    ∙ ap (λ outputs. put_each loop.into (filter_map (joined_field left) (zip outputs (drop p names)))) (sym next)
    ∙ loop.invariant
