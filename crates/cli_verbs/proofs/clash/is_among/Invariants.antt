use Rattle.std.proofs.Common.{◌≡◌, drop}
use Rattle.std.specs.Prelude.{map}
use Rattle.mlr_event.specs.Reading.{is_among}
use Rattle.cli_verbs.proofs.clash.is_among.Given as goal

-- the name isn't among those so far
abbrev pub invariant-loop-other : goal.invariant-loop-other
invariant-loop-other l =
    is_among (map (λ name. name.now) (drop l.other-index l.names)) l.name ≡ is_among (map (λ name. name.now) l.names) l.name
