use Rattle.std.proofs.Common.{drop}
use Rattle.cli_verbs.specs.HavingFields.{patterns_among}
use Rattle.cli_verbs.proofs.Passing.{Passing}
use Rattle.cli_verbs.proofs.having_fields.check_patterns.Given as goal

abbrev pub invariant-loop-given : goal.invariant-loop-given
invariant-loop-given l = Passing (patterns_among l.options) (patterns_among (drop l.given-index l.options))
