use Rattle.std.proofs.Common.{◌≡◌, drop, None}
use Rattle.std.specs.Option.{option_map}
use Rattle.cli_grammar.specs.Options.{last_or}
use Rattle.cli_grammar.proofs.given.last_in.Given as goal

-- the word after the last option so far
abbrev pub invariant-loop-given : goal.invariant-loop-given
invariant-loop-given l =
    last_or (option_map (λ word. word.now) l.argument) l.name (drop l.given-index l.options) ≡ last_or None l.name l.options
