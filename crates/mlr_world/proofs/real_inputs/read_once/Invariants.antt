use Rattle.std.specs.Io.KnownBytes.{Keeps}
use Rattle.mlr_world.proofs.real_inputs.read_once.Given as goal

-- a read that was interrupted took nothing
abbrev pub invariant-loop : goal.invariant-loop
invariant-loop g l = Keeps (g.S.Read.remaining l.initial.source) (g.S.Read.remaining l.source)
