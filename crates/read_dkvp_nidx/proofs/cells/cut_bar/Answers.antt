use Rattle.std.proofs.Common.{sym}
use Rattle.read_dkvp_nidx.proofs.Tables.{HasNoBar-from, IsBarCut-from}
use Rattle.read_dkvp_nidx.proofs.cells.cut_bar.Goals as goal

pub returns-in_err-place : goal.returns-in_err-place
returns-in_err-place c = rw c.from_residual.ensures (HasNoBar-from c.args.text.now (sym c.in_err-place.ensures.place))

pub returns : goal.returns
returns c = IsBarCut-from c.args.text.now c.in_ok-place.place (sym c.in_ok-place.ensures.place)
