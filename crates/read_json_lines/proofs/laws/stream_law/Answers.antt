use Rattle.read_json_lines.proofs.Grammar.Items.{has-items}
use Rattle.read_json_lines.proofs.Grammar.Unique.{items-only}
use Rattle.read_json_lines.proofs.laws.stream_law.Goals as goal

pub returns-clause-items : goal.returns-clause-items
returns-clause-items c = has-items

pub returns-clause-only : goal.returns-clause-only
returns-clause-only c = items-only
