use Rattle.std.proofs.Common.{[], ◌∷◌, ◌++◌, ap, ap₂, ◌∙◌, arith}
use Rattle.std.proofs.lemmas.List.{map-append}
use Rattle.mlr_spec.specs.Tree.{fields_of}
use Rattle.mlr_spec.specs.Pairs.{keys_of, are_distinct}
use Rattle.mlr_value.specs.Value.{tree_of}
use Rattle.mlr_value.proofs.Depth.{depth-item, depth-pair}
use Rattle.mlr_record.specs.Fields.{pair_of, pairs_of}
use Rattle.verbs_fields.specs.SortWithinRecords.{deep_pairs}
use Rattle.verbs_fields.proofs.Deep.{deep_items-more, deep_pairs-more, deep_pairs-distinct}
use Rattle.verbs_fields.proofs.sort_within_records.+sorted.Goals as goal

pub push_items-sorted_value-requires : goal.push_items-sorted_value-requires
push_items-sorted_value-requires t c = (
  let less = depth-item c.args.array.now c.loop-place.place (tree_of c.item.result.now) c.item.ensures in
      omega (arith, less, c.decreases),
  tt,
)

pub push_items-loop-place-preserved : goal.push_items-loop-place-preserved
push_items-loop-place-preserved t c =
    let into = c.loop-place.into in
    let pushed = c.in_ok-push.ensures ∙ ap (λ tree. into ++ tree ∷ []) c.in_ok-sorted_value.ensures in
    deep_items-more into c.push.new.self c.args.array.now c.loop-place.place (tree_of c.item.result.now) c.item.ensures pushed
    ∙ c.loop-place.invariant

pub push_pairs-sorted_value-requires : goal.push_pairs-sorted_value-requires
push_pairs-sorted_value-requires t c = (
  let less = depth-pair c.args.map.now c.loop-place.place (c.entry.result.0.now, tree_of c.entry.result.1.now) c.entry.ensures in
      omega (arith, less, c.decreases),
  tt,
)

pub push_pairs-loop-place-preserved : goal.push_pairs-loop-place-preserved
push_pairs-loop-place-preserved t c =
    let fields = c.loop-place.into.items in
    let pushed =
    ap pairs_of c.in_ok-push.ensures.items
    ∙ map-append pair_of fields (record { name = c.in_ok-name.name; value = c.in_ok-value.value } ∷ [])
    ∙ ap₂ (λ name tree. pairs_of fields ++ (name, tree) ∷ []) c.in_ok-name.ensures.copied c.in_ok-value.ensures in
    deep_pairs-more (pairs_of fields) (pairs_of c.push.new.self.items) c.args.map.now c.loop-place.place c.entry.result.0.now (tree_of c.entry.result.1.now) c.entry.ensures pushed
    ∙ c.loop-place.invariant

pub sorted_value-map_by_name-requires : goal.sorted_value-map_by_name-requires
sorted_value-map_by_name-requires t c =
    let whole = c.in_ok-push_pairs-in-Map.ensures ∙ ap (λ items. pairs_of items ++ deep_pairs (fields_of c.in-Map.map)) c.in_ok-pairs-in-Map.ensures.items in
    ap (λ pairs. are_distinct (keys_of pairs)) whole ∙ deep_pairs-distinct c.in-Map.map c.len.ensures.distinct
