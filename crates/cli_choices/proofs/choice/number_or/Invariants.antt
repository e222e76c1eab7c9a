use Rattle.std.proofs.Common.{◌≡◌, drop}
use Rattle.cli_choices.specs.Choices.{number_or}
use Rattle.cli_choices.proofs.choice.number_or.Given as goal

-- the number of the last option so far
abbrev pub invariant-loop-given : goal.invariant-loop-given
invariant-loop-given l = number_or l.number l.name (drop l.given-index l.options) ≡ number_or l.default l.name l.options
