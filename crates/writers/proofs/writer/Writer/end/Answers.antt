use Rattle.std.proofs.lemmas.Result.{on_ok_weaker}
use Rattle.writers.proofs.Growing.{adds-end}
use Rattle.writers.proofs.writer.Writer.end.Goals as goal

pub returns-clause-adds : goal.returns-clause-adds
returns-clause-adds c =
    on_ok_weaker c.take_end-ended.result
    (λ text_is opts bodies represents. adds-end opts c.args.self.now c.args.out.now c.take_end-ended.new.out text_is bodies represents)
    c.take_end-ended.ensures.text
