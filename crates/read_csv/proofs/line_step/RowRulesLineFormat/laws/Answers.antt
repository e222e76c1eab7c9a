use Rattle.read_csv.specs.Counting.{count-last}
use Rattle.read_csv.proofs.Files.{ctx_fed-is, ctx_read-is, fed-is, read-is}
use Rattle.read_csv.proofs.line_step.RowRulesLineFormat.laws.Goals as goal

pub returns-clause-fed : goal.returns-clause-fed
returns-clause-fed c = λ rules opts file start begins bytes. fed-is opts file start rules begins bytes

pub returns-clause-whole : goal.returns-clause-whole
returns-clause-whole c = λ rules opts file start begins bytes. read-is opts file start rules begins bytes

pub returns-clause-fed_at : goal.returns-clause-fed_at
returns-clause-fed_at c = λ rules opts file start begins bytes. ctx_fed-is opts file start rules begins bytes

pub returns-clause-whole_at : goal.returns-clause-whole_at
returns-clause-whole_at c = λ rules opts file start begins bytes. ctx_read-is opts file start rules begins bytes

pub returns-clause-count : goal.returns-clause-count
returns-clause-count c = λ rules line. count-last rules line
