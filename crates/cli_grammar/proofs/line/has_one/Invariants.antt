use Rattle.std.proofs.Common.{◌≡◌, drop}
use Rattle.std.specs.Prelude.{map}
use Rattle.std.specs.List.{list_any}
use Rattle.cli_grammar.specs.Options.{has}
use Rattle.cli_grammar.proofs.line.has_one.Given as goal

-- none of the names so far was given
abbrev pub invariant-loop-name : goal.invariant-loop-name
invariant-loop-name l =
    list_any (λ name. has name l.verb.options) (map (λ name. name.now) (drop l.name-index l.names))
    ≡ list_any (λ name. has name l.verb.options) (map (λ name. name.now) l.names)
