use Rattle.std.proofs.Common.{◌≡◌, map, length}
use Rattle.mlr_spec.specs.Pairs.{put_each}
use Rattle.verbs_nest.specs.Pieces.{pair_of_piece, pieces_of}
use Rattle.verbs_nest.proofs.across_fields.put_pairs.Given as goal

-- the record so far, with the remaining pieces, is the whole
abbrev pub invariant-loop-piece : goal.invariant-loop-piece
invariant-loop-piece l =
    put_each l.into (map (pair_of_piece l.name l.pair_separator) (pieces_of l.separator l.left))
    ≡ put_each l.fn.into (map (pair_of_piece l.name l.pair_separator) (pieces_of l.separator l.fn.text))

abbrev pub decreases-loop-piece : goal.decreases-loop-piece
decreases-loop-piece l = length l.left
