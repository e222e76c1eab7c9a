use Rattle.writers.proofs.Growing.{adds-more, represents-more}
use Rattle.writers.proofs.Taking.{on_ok_both}
use Rattle.writers.proofs.writer.Writer.take.Goals as goal

pub returns-else-is_err-clause-represents : goal.returns-else-is_err-clause-represents
returns-else-is_err-clause-represents c =
    let old = c.args.self.now in
    let new = c.take_body-taken.new.self in
    on_ok_both c.take_body-taken.result
    (λ run_is text_is opts bodies represents. represents-more opts old new c.args.body c.args.out.now c.take_body-taken.new.out run_is text_is c.take_body-taken.ensures.opts bodies represents)
    c.take_body-taken.ensures.run c.take_body-taken.ensures.text

pub returns-else-is_err-clause-adds : goal.returns-else-is_err-clause-adds
returns-else-is_err-clause-adds c =
    let old = c.args.self.now in
    let new = c.take_body-taken.new.self in
    on_ok_both c.take_body-taken.result
    (λ run_is text_is opts bodies represents. adds-more opts old new c.args.body c.args.out.now c.take_body-taken.new.out run_is text_is c.take_body-taken.ensures.opts bodies represents)
    c.take_body-taken.ensures.run c.take_body-taken.ensures.text
