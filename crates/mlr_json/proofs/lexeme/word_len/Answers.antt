use Rattle.std.proofs.Common.{arith, sym, ◌∙◌}
use Rattle.std.proofs.lemmas.List.Sums.{prefix_len_is}
use Rattle.mlr_spec.specs.JsonTokens.{is_word_byte}
use Rattle.mlr_json.proofs.lexeme.word_len.Goals as goal

pub returns-then-not-is_word_byte : goal.returns-then-not-is_word_byte
returns-then-not-is_word_byte c =
    sym (prefix_len_is is_word_byte c.args.text.now c.loop-place.place 0 (omega arith) c.loop-place.invariant (λ _. sym c.is_word_byte.ensures ∙ c.if-not-is_word_byte.true))

pub returns : goal.returns
returns c =
    sym (prefix_len_is is_word_byte c.args.text.now _ 0 (omega arith) (λ k h. c.loop-place.invariant k (omega arith)) (λ h. absurd (omega arith)))
