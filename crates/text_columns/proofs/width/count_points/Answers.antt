use Rattle.std.proofs.Common.{sym}
use Rattle.text_columns.proofs.CodePoints.{ascii-points}
use Rattle.text_columns.proofs.width.count_points.Goals as goal

pub returns-then-is_ascii-clause-count : goal.returns-then-is_ascii-clause-count
returns-then-is_ascii-clause-count c = sym (ascii-points c.args.text.now (sym c.if-is_ascii.ensures))
