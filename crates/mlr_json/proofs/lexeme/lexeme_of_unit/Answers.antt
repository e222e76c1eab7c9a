use Rattle.std.proofs.Common.{arith}
use Rattle.std.proofs.lemmas.List.Sums.{prefix_len-le-length}
use Rattle.mlr_spec.specs.JsonTokens.{is_hex}
use Rattle.mlr_json.proofs.lexeme.lexeme_of_unit.Goals as goal

pub returns-else-digits-text-clause-within : goal.returns-else-digits-text-clause-within
returns-else-digits-text-clause-within c = omega (arith, prefix_len-le-length is_hex c.args.text.now)
