use Rattle.std.proofs.Common.{refl}
use Rattle.mlr_time.proofs.Digits.{PAIRS_at}
use Rattle.mlr_time.proofs.date.two_digits.Goals as goal

pub returns : goal.returns
returns c = let p = PAIRS_at c.args.n c.requires in rw (p.0, p.1) refl
