use Rattle.std.proofs.Common.{◌≡◌, ◌+◌, ◌≤◌, length}
use Rattle.mlr_spec.specs.Pairs.{put_each}
use Rattle.verbs_nest.specs.Pieces.{numbered, pieces_of}
use Rattle.verbs_nest.proofs.across_fields.put_numbered.Given as goal

-- the record so far, with the remaining pieces, is the whole
abbrev pub invariant-loop-piece : goal.invariant-loop-piece
invariant-loop-piece l = record {
  fields : put_each l.into (numbered l.name l.number (pieces_of l.separator l.left)) ≡ put_each l.fn.into (numbered l.name 1 (pieces_of l.separator l.fn.text));
  small : l.number + length l.left ≤ length l.fn.text + 1;
}

abbrev pub decreases-loop-piece : goal.decreases-loop-piece
decreases-loop-piece l = length l.left
