use Rattle.std.proofs.Common.{◌≡◌, ◌++◌, map, Some, take, drop}
use Rattle.mlr_value.specs.Value.{tree_of}
use Rattle.verbs_step.specs.Kept.{kept}
use Rattle.verbs_step.specs.Made.{kept_by, made_by, trees_of}
use Rattle.verbs_step.proofs.making.step_all.Given as goal

abbrev pub invariant-loop-track : goal.invariant-loop-track
invariant-loop-track l = record {
  made : trees_of l.made.items ≡ trees_of l.fn.made.items ++ made_by (Some (tree_of l.value)) (map kept (take l.track-index l.fn.tracks));
  kept : map kept (take l.track-index l.tracks) ≡ kept_by (Some (tree_of l.value)) (map kept (take l.track-index l.fn.tracks));
  left : drop l.track-index l.tracks ≡ drop l.track-index l.fn.tracks;
}
