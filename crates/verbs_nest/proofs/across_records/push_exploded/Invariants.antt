use Rattle.std.proofs.Common.{◌≡◌, ◌++◌, ◌∷◌, [], map, length}
use Rattle.verbs_base.specs.Records.{with_context}
use Rattle.verbs_nest.specs.Across.{across_records}
use Rattle.verbs_nest.specs.Nest.{replaced}
use Rattle.verbs_nest.specs.Pieces.{pieces_of}
use Rattle.verbs_nest.proofs.across_records.push_exploded.Given as goal

-- the records so far, with those of the remaining pieces, are all
abbrev pub invariant-loop-piece : goal.invariant-loop-piece
invariant-loop-piece l =
    l.out ++ with_context l.ctx (map (λ made. replaced l.verb.field made l.fields) (map (λ piece. across_records l.verb.field l.verb.pair_separator piece ∷ []) (pieces_of l.verb.separator l.left)))
    ≡ l.fn.out ++ with_context l.ctx (map (λ made. replaced l.verb.field made l.fields) (map (λ piece. across_records l.verb.field l.verb.pair_separator piece ∷ []) (pieces_of l.verb.separator l.fn.text)))

abbrev pub decreases-loop-piece : goal.decreases-loop-piece
decreases-loop-piece l = length l.left
