use Rattle.left_files.proofs.Fixed.{lefts-fixed}
use Rattle.left_files.proofs.Wholes.{whole-read}
use Rattle.left_files.proofs.laws.left_laws.Goals as goal

pub returns-clause-fixed : goal.returns-clause-fixed
returns-clause-fixed c = lefts-fixed c.source_laws.ensures.fixed

pub returns-clause-read : goal.returns-clause-read
returns-clause-read c files given lefts order is = (whole-read files given lefts order is).0

pub returns-clause-each : goal.returns-clause-each
returns-clause-each c files given lefts order is = (whole-read files given lefts order is).1
