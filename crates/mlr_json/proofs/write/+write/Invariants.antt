use Rattle.std.proofs.Common.{◌≡◌, ◌==◌, ◌++◌, ◌+◌, ◌*◌, map, true, drop}
use Rattle.mlr_spec.specs.Json.{json_at, json_field, is_stacked}
use Rattle.mlr_value.specs.Value.{tree_of}
use Rattle.mlr_value.specs.Depth.{depth, pairs_depth, items_depth}
use Rattle.mlr_json.specs.Escapes.{RepresentsBefore}
use Rattle.mlr_json.specs.Writing.{led}
use Rattle.mlr_json.proofs.write.+write.Given as goal

-- what was written so far, with the rest, is all of it
abbrev pub invariant-append_items-loop-place : goal.invariant-append_items-loop-place
invariant-append_items-loop-place l = record {
  all : l.into ++ led l.lines (l.place == 0) l.level (map (json_at l.style l.level) (drop l.place l.items)) ≡ l.initial.into ++ led l.lines true l.level (map (json_at l.style l.level) l.items);
  prefix : RepresentsBefore l.initial.into l.into;
}

abbrev pub invariant-append_pairs-loop-place : goal.invariant-append_pairs-loop-place
invariant-append_pairs-loop-place l = record {
  all : l.into ++ led (is_stacked l.style) (l.place == 0) l.level (map (json_field l.style l.level) (drop l.place l.pairs)) ≡ l.initial.into ++ led (is_stacked l.style) true l.level (map (json_field l.style l.level) l.pairs);
  prefix : RepresentsBefore l.initial.into l.into;
}

abbrev pub decreases-append_at : goal.decreases-append_at
decreases-append_at l = 4 * depth (tree_of l.value.now)

abbrev pub decreases-append_field : goal.decreases-append_field
decreases-append_field l = 4 * depth (tree_of l.value.now) + 1

abbrev pub decreases-append_map : goal.decreases-append_map
decreases-append_map l = 4 * pairs_depth l.pairs.now + 3

abbrev pub decreases-append_pairs : goal.decreases-append_pairs
decreases-append_pairs l = 4 * pairs_depth l.pairs.now + 2

abbrev pub decreases-append_array : goal.decreases-append_array
decreases-append_array l = 4 * items_depth l.items.now + 3

abbrev pub decreases-append_items : goal.decreases-append_items
decreases-append_items l = 4 * items_depth l.items.now + 2
