use Rattle.read_files.proofs.Beginning.{begun-represents}
use Rattle.read_files.proofs.reader.FileReader.begin.Goals as goal

pub returns-clause-represents : goal.returns-clause-represents
returns-clause-represents c = λ opts names given next. begun-represents opts names given c.args.name c.args.self.now c.in_ok-reader.reader next c.in_ok-reader.ensures
