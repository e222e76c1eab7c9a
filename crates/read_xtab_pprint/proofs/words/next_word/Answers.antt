use Rattle.read_xtab_pprint.proofs.Wording.{IsWordCut-prefix, no-words-prefix}
use Rattle.read_xtab_pprint.proofs.words.next_word.Goals as goal

pub returns-then-is_empty : goal.returns-then-is_empty
returns-then-is_empty c = no-words-prefix c.args.text.now c.without_spaces-prefix.result.now c.is_empty.result c.without_spaces-prefix.ensures c.is_empty.ensures c.if-is_empty.true

pub returns : goal.returns
returns c =
    IsWordCut-prefix c.args.text.now c.without_spaces-prefix.result.now c.cut_word.result.0.now c.cut_word.result.1.now c.is_empty.result c.without_spaces-prefix.ensures c.is_empty.ensures c.if-is_empty.false
    c.cut_word.ensures.word c.cut_word.ensures.rest
