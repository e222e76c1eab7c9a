use Rattle.read_json_lines.proofs.Representing.{represents-ctx}
use Rattle.read_json_lines.proofs.json.JsonReader.ctx.Goals as goal

pub returns-clause-fed : goal.returns-clause-fed
returns-clause-fed c = λ opts file start bytes represents. represents-ctx opts file start c.args.self.now.stream bytes c.args.self.now.mark represents
