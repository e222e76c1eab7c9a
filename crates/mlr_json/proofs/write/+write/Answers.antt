use Rattle.std.proofs.Common.{◌≡◌, ◌==◌, ◌++◌, ◌&&◌, true, map, arith, rules, ap, ◌∙◌, codes}
use Rattle.std.specs.List.{list_any}
use Rattle.mlr_spec.specs.Tree.{is_collection}
use Rattle.mlr_spec.specs.Json.{json_at, json_field, is_stacked}
use Rattle.mlr_value.specs.Value.{tree_of}
use Rattle.mlr_value.proofs.Depth.{depth-item, depth-pair}
use Rattle.mlr_json.proofs.Written.{all-next, prefix-next, last-part, map-written, array-written}
use Rattle.mlr_json.specs.Writing.{gap, line_end, led}
use Rattle.mlr_json.proofs.write.+write.Goals as goal

pub append_items-append_at-requires : goal.append_items-append_at-requires
append_items-append_at-requires t c = (
  let less = depth-item c.args.items.now c.loop-place.place (tree_of c.item.result.now) c.item.ensures in
      omega (arith, less, c.decreases),
  tt,
)

pub append_pairs-append_field-requires : goal.append_pairs-append_field-requires
append_pairs-append_field-requires t c = (
  let less = depth-pair c.args.pairs.now c.loop-place.place (c.entry.result.0.now, tree_of c.entry.result.1.now) c.entry.ensures in
      omega (arith, less, c.decreases),
  tt,
)

pub append_items-loop-place-preserved : goal.append_items-loop-place-preserved
append_items-loop-place-preserved t c = record {
  all = all-next c.args.lines c.args.level (json_at c.args.style c.args.level) c.args.items.now c.loop-place.place (tree_of c.item.result.now) c.loop-place.into c.append_gap.new.into c.append_at.new.into _ c.item.ensures c.loop-place.invariant.all c.in_ok-append_gap.ensures.ok c.in_ok-append_at.ensures.ok;
  prefix = prefix-next c.args.into.now c.loop-place.into c.append_gap.new.into c.append_at.new.into _ _ c.loop-place.invariant.prefix c.in_ok-append_gap.ensures.ok c.in_ok-append_at.ensures.ok;
}

pub append_pairs-loop-place-preserved : goal.append_pairs-loop-place-preserved
append_pairs-loop-place-preserved t c =
    let lines_is = c.is_stacked.ensures in
    let gap_is : c.append_gap.new.into ≡ c.loop-place.into ++ gap (is_stacked c.args.style) (c.loop-place.place == 0) c.args.level =
    c.in_ok-append_gap.ensures.ok ∙ ap (λ lines. c.loop-place.into ++ gap lines (c.loop-place.place == 0) c.args.level) lines_is in
    record {
      all = all-next (is_stacked c.args.style) c.args.level (json_field c.args.style c.args.level) c.args.pairs.now c.loop-place.place (c.entry.result.0.now, tree_of c.entry.result.1.now) c.loop-place.into c.append_gap.new.into c.append_field.new.into _ c.entry.ensures c.loop-place.invariant.all gap_is c.in_ok-append_field.ensures.ok;
      prefix = prefix-next c.args.into.now c.loop-place.into c.append_gap.new.into c.append_field.new.into _ _ c.loop-place.invariant.prefix gap_is c.in_ok-append_field.ensures.ok;
    }

pub append_map-returns-clause-ok : goal.append_map-returns-clause-ok
append_map-returns-clause-ok t c =
    last-part c.push-2.result c.push-2.new.self c.append_line_end.new.into (codes "}") _ c.push-2.ensures
    (map-written c.args.style c.args.level c.args.pairs.now c.args.into.now c.push.new.self c.append_pairs.new.into c.append_line_end.new.into
    (λ e. c.if-len-eq0.false (c.len.ensures.length ∙ e)) c.in_ok-push.ensures
    (c.in_ok-append_pairs.ensures.ok ∙ ap (λ level. c.push.new.self ++ led (is_stacked c.args.style) true level (map (json_field c.args.style level) c.args.pairs.now)) c.in_ok-inner.ensures)
    (c.in_ok-append_line_end.ensures.ok ∙ ap (λ lines. c.append_pairs.new.into ++ line_end lines c.args.level) c.is_stacked.ensures))

pub append_array-returns-clause-ok : goal.append_array-returns-clause-ok
append_array-returns-clause-ok t c =
    let lines_is : c.if-is_stacked.lines ≡ (is_stacked c.args.style && list_any is_collection c.args.items.now) = search rules in
    last-part c.push-2.result c.push-2.new.self c.append_line_end.new.into (codes "]") _ c.push-2.ensures
    (array-written c.args.style c.if-is_stacked.lines c.args.level c.args.items.now c.args.into.now c.push.new.self c.append_items.new.into c.append_line_end.new.into
    (λ e. c.if-len-eq0.false (c.len.ensures ∙ e)) lines_is c.in_ok-push.ensures
    (c.in_ok-append_items.ensures.ok ∙ ap (λ level. c.push.new.self ++ led c.if-is_stacked.lines true level (map (json_at c.args.style level) c.args.items.now)) c.in_ok-inner.ensures)
    c.in_ok-append_line_end.ensures.ok)
