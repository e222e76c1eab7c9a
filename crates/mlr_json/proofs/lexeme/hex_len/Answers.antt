use Rattle.std.proofs.Common.{arith, sym, ap, ◌∙◌, nat_lt}
use Rattle.std.proofs.lemmas.List.Sums.{prefix_len_is}
use Rattle.std.proofs.lemmas.Bool.{le-ltb}
use Rattle.mlr_spec.specs.JsonTokens.{is_hex}
use Rattle.mlr_json.proofs.lexeme.hex_len.Goals as goal

pub returns-then-digit_of-ge16 : goal.returns-then-digit_of-ge16
returns-then-digit_of-ge16 c =
    sym (prefix_len_is is_hex c.args.text.now c.loop-place.place 0 (omega arith) c.loop-place.invariant (λ _. ap (λ n. nat_lt n 16) (sym c.digit_of.ensures) ∙ le-ltb c.digit_of.result 16 c.if-digit_of-ge16.true))

pub returns : goal.returns
returns c =
    sym (prefix_len_is is_hex c.args.text.now _ 0 (omega arith) (λ k h. c.loop-place.invariant k (omega arith)) (λ h. absurd (omega arith)))
