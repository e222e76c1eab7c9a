use Rattle.std.proofs.Common.{◌≡◌, [], drop, take}
use Rattle.std.specs.Prelude.{map}
use Rattle.cli_verbs.specs.Clash.{clash_after}
use Rattle.cli_verbs.proofs.clash.first_clash.Given as goal

-- none of the options so far contradicts an earlier one
abbrev pub invariant-loop-place : goal.invariant-loop-place
invariant-loop-place l =
    clash_after (map (λ group. (map (λ name. name.now) group.0.now, group.1)) l.groups) (take l.place l.options) (drop l.place l.options)
    ≡ clash_after (map (λ group. (map (λ name. name.now) group.0.now, group.1)) l.groups) [] l.options
