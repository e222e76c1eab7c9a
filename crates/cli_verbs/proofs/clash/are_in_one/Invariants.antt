use Rattle.std.proofs.Common.{◌≡◌, drop}
use Rattle.std.specs.Prelude.{map}
use Rattle.std.specs.List.{list_any}
use Rattle.cli_verbs.specs.Clash.{are_in}
use Rattle.cli_verbs.proofs.clash.are_in_one.Given as goal

-- none of the groups so far has both names
abbrev pub invariant-loop-group : goal.invariant-loop-group
invariant-loop-group l =
    list_any (are_in l.name l.other) (map (λ group. (map (λ name. name.now) group.0.now, group.1)) (drop l.group-index l.groups))
    ≡ list_any (are_in l.name l.other) (map (λ group. (map (λ name. name.now) group.0.now, group.1)) l.groups)
