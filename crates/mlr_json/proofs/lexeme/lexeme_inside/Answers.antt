use Rattle.std.proofs.Common.{◌≡◌, get_or, rules}
use Rattle.mlr_spec.specs.JsonTokens.{is_raw}
use Rattle.mlr_json.proofs.Digits.{prefix_len-within, is_raw-other}
use Rattle.mlr_json.proofs.lexeme.lexeme_inside.Goals as goal

pub returns-in_default-clause-within : goal.returns-in_default-clause-within
returns-in_default-clause-within c =
    let text = c.args.text.now in
    let quote : get_or text 0 0 ≡ 34 → ⊥ = search rules in
    let backslash : get_or text 0 0 ≡ 92 → ⊥ = search rules in
    prefix_len-within is_raw text _ c.in_default.len_at_least (is_raw-other _ quote backslash) c.raw_len-len.ensures
