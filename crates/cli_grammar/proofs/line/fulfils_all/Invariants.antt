use Rattle.std.proofs.Common.{◌≡◌, drop}
use Rattle.std.specs.Prelude.{map}
use Rattle.std.specs.List.{list_all}
use Rattle.cli_grammar.specs.Reading.{fulfils}
use Rattle.cli_grammar.proofs.line.fulfils_all.Given as goal

-- the groups so far are fulfilled
abbrev pub invariant-loop-group : goal.invariant-loop-group
invariant-loop-group l =
    list_all (fulfils l.verb.options) (map (λ group. (map (λ name. name.now) group.0.now, group.1)) (drop l.group-index l.groups))
    ≡ list_all (fulfils l.verb.options) (map (λ group. (map (λ name. name.now) group.0.now, group.1)) l.groups)
