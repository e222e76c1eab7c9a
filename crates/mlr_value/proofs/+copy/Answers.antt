use Rattle.std.proofs.Common.{◌++◌, ◌∷◌, [], take, ap, sym, ◌∙◌, arith}
use Rattle.mlr_spec.specs.Pairs.{value_at}
use Rattle.mlr_value.specs.Value.{tree_of}
use Rattle.mlr_value.proofs.Depth.{depth-item, depth-pair}
use Rattle.mlr_keys.proofs.Keyed.{take-more}
use Rattle.mlr_value.proofs.Prefixes.{value_at-before}
use Rattle.mlr_value.proofs.+copy.Goals as goal

pub array_value::copy_items-copy-requires : goal.array_value::copy_items-copy-requires
array_value::copy_items-copy-requires t c = (
  let less = depth-item c.args.from.now c.loop-place.place (tree_of c.item.result.now) c.item.ensures in
      omega (arith, less, c.decreases),
  tt,
)

pub array_value::copy_items-loop-place-preserved : goal.array_value::copy_items-loop-place-preserved
array_value::copy_items-loop-place-preserved t c =
    let from = c.args.from.now in
    let place = c.loop-place.place in
    c.in_ok-push.ensures
    ∙ ap (λ prefix. prefix ++ tree_of c.in_ok-copy.field-0 ∷ []) c.loop-place.invariant
    ∙ ap (λ tree. take place from ++ tree ∷ []) c.in_ok-copy.ensures
    ∙ sym (take-more from place (tree_of c.item.result.now) c.item.ensures)

pub map_value::copy_pairs-copy-requires : goal.map_value::copy_pairs-copy-requires
map_value::copy_pairs-copy-requires t c = (
  let less = depth-pair c.args.from.now c.loop-place.place (c.entry.result.0.now, tree_of c.entry.result.1.now) c.entry.ensures in
      omega (arith, less, c.decreases),
  tt,
)

pub map_value::copy_pairs-push-requires : goal.map_value::copy_pairs-push-requires
map_value::copy_pairs-push-requires t c =
    let from = c.args.from.now in
    let place = c.loop-place.place in
    let key = c.entry.result.0.now in
    ap (value_at key) c.loop-place.invariant
    ∙ value_at-before from place (key, tree_of c.entry.result.1.now) c.entry.ensures c.len-place-end.ensures.distinct

pub map_value::copy_pairs-loop-place-preserved : goal.map_value::copy_pairs-loop-place-preserved
map_value::copy_pairs-loop-place-preserved t c =
    let from = c.args.from.now in
    let place = c.loop-place.place in
    let key = c.entry.result.0.now in
    c.in_ok-push.ensures
    ∙ ap (λ prefix. prefix ++ (key, tree_of c.in_ok-copy.field-0) ∷ []) c.loop-place.invariant
    ∙ ap (λ tree. take place from ++ (key, tree) ∷ []) c.in_ok-copy.ensures
    ∙ sym (take-more from place (key, tree_of c.entry.result.1.now) c.entry.ensures)
