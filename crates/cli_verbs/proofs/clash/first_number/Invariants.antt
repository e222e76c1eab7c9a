use Rattle.std.proofs.Common.{◌≡◌, drop}
use Rattle.cli_verbs.specs.Clash.{first_number}
use Rattle.cli_verbs.proofs.clash.first_number.Given as goal

-- none of the options so far has this name
abbrev pub invariant-loop-given : goal.invariant-loop-given
invariant-loop-given l = first_number l.name (drop l.given-index l.options) ≡ first_number l.name l.options
