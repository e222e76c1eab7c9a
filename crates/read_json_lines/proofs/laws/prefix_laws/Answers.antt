use Rattle.std.proofs.Common.{true, false}
use Rattle.read_json_lines.proofs.FilePrefixes.{events-stay}
use Rattle.read_json_lines.proofs.laws.prefix_laws.Goals as goal

pub returns-clause-fed : goal.returns-clause-fed
returns-clause-fed c = λ opts file start bytes rest. events-stay false opts.infer file rest start bytes

pub returns-clause-read : goal.returns-clause-read
returns-clause-read c = λ opts file start bytes rest. events-stay true opts.infer file rest start bytes
