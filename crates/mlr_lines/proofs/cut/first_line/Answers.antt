use Rattle.mlr_lines.proofs.Cutting.{EndsNoLine-from, EndsLine-from}
use Rattle.mlr_lines.proofs.cut.first_line.Goals as goal

pub returns-in_err-place : goal.returns-in_err-place
returns-in_err-place c = rw c.from_residual.ensures (EndsNoLine-from c.args.text.now c.in_err-place.ensures)

pub returns : goal.returns
returns c = EndsLine-from c.args.text.now c.in_ok-place.place c.in_ok-place.ensures
