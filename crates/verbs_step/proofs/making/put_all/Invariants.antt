use Rattle.std.proofs.Common.{◌≡◌, drop, length}
use Rattle.mlr_spec.specs.Pairs.{put_each}
use Rattle.verbs_step.specs.Made.{named, trees_of}
use Rattle.verbs_step.proofs.making.put_all.Given as goal

abbrev pub invariant-loop-place : goal.invariant-loop-place
invariant-loop-place l = record {
  places : length l.made ≡ length l.outputs;
  left : put_each l.fields (named (drop l.place l.outputs) (trees_of (drop l.place l.made))) ≡ put_each l.fn.fields (named l.outputs (trees_of l.fn.made));
}
