use Rattle.std.proofs.lemmas.Result.{on_ok_weaker}
use Rattle.mlr_lines.proofs.Feeding.{Represents-more, Adds-more}
use Rattle.mlr_lines.proofs.lines.Lines.feed.Goals as goal

pub returns-else-is_err-clause-represents : goal.returns-else-is_err-clause-represents
returns-else-is_err-clause-represents g c =
    let f = g.F.LineFormat in
    on_ok_weaker c.take-taken.result
    (λ takes format bytes represents. Represents-more f.after f.gives c.args.self.now c.take-taken.new.self c.args.piece.now c.args.out.now c.take-taken.new.out takes format bytes represents)
    c.take-taken.ensures.takes

pub returns-else-is_err-clause-adds : goal.returns-else-is_err-clause-adds
returns-else-is_err-clause-adds g c =
    let f = g.F.LineFormat in
    on_ok_weaker c.take-taken.result
    (λ takes format bytes represents. Adds-more f.after f.gives c.args.self.now c.take-taken.new.self c.args.piece.now c.args.out.now c.take-taken.new.out takes format bytes represents)
    c.take-taken.ensures.takes
