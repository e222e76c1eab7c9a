use Rattle.std.proofs.Common.{◌≡◌, take, true}
use Rattle.std.specs.List.{list_all}
use Rattle.read_dkvp_nidx.specs.Markdown.{is_rule}
use Rattle.read_dkvp_nidx.proofs.cells.are_rules.Given as goal

abbrev pub invariant-loop-cell : goal.invariant-loop-cell
invariant-loop-cell l = list_all is_rule (take l.cell-index l.cells) ≡ true
