use Rattle.writers.proofs.Texts.{empty-place}
use Rattle.writers.proofs.csv.holds.Goals as goal

pub returns-then-separator-eq0 : goal.returns-then-separator-eq0
returns-then-separator-eq0 c = empty-place c.args.separator.now c.args.text.now c.if-separator-eq0.true
