use Rattle.std.proofs.Common.{sym, ◌∙◌}
use Rattle.mlr_spec.specs.JsonTokens.{is_blank, is_word_byte}
use Rattle.mlr_json.proofs.Digits.{prefix_len-within}
use Rattle.mlr_json.proofs.lexeme.lexeme_unmarked.Goals as goal

pub returns-then-is_blank-clause-within : goal.returns-then-is_blank-clause-within
returns-then-is_blank-clause-within c = prefix_len-within is_blank c.args.text.now _ c.requires (sym c.is_blank.ensures ∙ c.if-is_blank.true) c.blank_len.ensures

pub returns-then-is_word_byte-clause-within : goal.returns-then-is_word_byte-clause-within
returns-then-is_word_byte-clause-within c = prefix_len-within is_word_byte c.args.text.now _ c.requires (sym c.is_word_byte.ensures ∙ c.if-is_word_byte.true) c.word_len-len.ensures
