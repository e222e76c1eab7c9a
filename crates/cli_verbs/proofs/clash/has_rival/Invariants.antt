use Rattle.std.proofs.Common.{◌≡◌, drop}
use Rattle.std.specs.Prelude.{map}
use Rattle.std.specs.List.{list_any}
use Rattle.cli_verbs.specs.Clash.{are_rivals}
use Rattle.cli_verbs.proofs.clash.has_rival.Given as goal

-- none of the options so far contradicts the name
abbrev pub invariant-loop-other : goal.invariant-loop-other
invariant-loop-other l =
    list_any (λ other. are_rivals (map (λ group. (map (λ name. name.now) group.0.now, group.1)) l.groups) l.name other.name) (drop l.other-index l.before)
    ≡ list_any (λ other. are_rivals (map (λ group. (map (λ name. name.now) group.0.now, group.1)) l.groups) l.name other.name) l.before
