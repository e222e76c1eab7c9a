use Rattle.read_csv.proofs.Quoting.{HasNoQuote-from, HasQuote-from}
use Rattle.read_csv.proofs.csv.first_quote.Goals as goal

pub returns-in_err-place : goal.returns-in_err-place
returns-in_err-place c = rw c.from_residual.ensures (HasNoQuote-from c.args.text.now c.in_err-place.ensures)

pub returns : goal.returns
returns c = HasQuote-from c.args.text.now c.in_ok-place.place c.following.result.now c.in_ok-place.ensures c.following.ensures
