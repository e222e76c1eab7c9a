use Rattle.mlr_lines.specs.Lines.{without_mark}
use Rattle.mlr_lines.proofs.Parting.{parts-are}
use Rattle.mlr_lines.proofs.laws.line_laws.Goals as goal

pub returns : goal.returns
returns c = λ bytes. parts-are (without_mark bytes)
