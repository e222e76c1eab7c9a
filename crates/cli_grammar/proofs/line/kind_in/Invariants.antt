use Rattle.std.proofs.Common.{◌≡◌, drop}
use Rattle.std.specs.Prelude.{map}
use Rattle.cli_grammar.specs.Reading.{kind_in}
use Rattle.cli_grammar.proofs.line.kind_in.Given as goal

-- the option isn't among those so far
abbrev pub invariant-loop-option : goal.invariant-loop-option
invariant-loop-option l =
    kind_in (map (λ option. (option.0.now, option.1)) (drop l.option-index l.options)) l.word
    ≡ kind_in (map (λ option. (option.0.now, option.1)) l.options) l.word
