use Rattle.read_csv.proofs.Prefixes.{fed-prefix, fed-more, read-more}
use Rattle.read_csv.proofs.laws.prefix_laws.Goals as goal

pub returns-clause-fed : goal.returns-clause-fed
returns-clause-fed c = λ opts file start bytes rest. fed-more opts file start bytes rest

pub returns-clause-read : goal.returns-clause-read
returns-clause-read c = λ opts file start bytes rest. read-more opts file start bytes rest

pub returns-clause-prefix : goal.returns-clause-prefix
returns-clause-prefix c = λ opts file start bytes sound. fed-prefix opts file sound start bytes
