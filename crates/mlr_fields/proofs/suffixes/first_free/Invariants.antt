use Rattle.mlr_fields.specs.Suffixes.{AreTaken}
use Rattle.mlr_fields.proofs.suffixes.first_free.Given as goal

-- the suffixes before this one are taken
abbrev pub invariant-loop-number : goal.invariant-loop-number
invariant-loop-number g l = AreTaken (g.N.TakenNames.names l.names) l.name l.number
