use Rattle.std.proofs.Common.{sym, ◌∙◌, arith}
use Rattle.read_xtab_pprint.proofs.Turns.{IsCount-barred, IsCount-plain, cells-none, cells-other}
use Rattle.read_xtab_pprint.proofs.cells.count_cells.Goals as goal

pub returns-then-not-is_barred : goal.returns-then-not-is_barred
returns-then-not-is_barred c = IsCount-plain c.args.line.now c.count_left.result (sym c.is_barred.ensures ∙ c.if-not-is_barred.true) c.count_left.ensures

pub returns-then-not-takes_turns : goal.returns-then-not-takes_turns
returns-then-not-takes_turns c = cells-other c.args.line.now (sym c.is_barred.ensures ∙ c.if-not-is_barred.false) (sym c.takes_turns.ensures ∙ c.if-not-takes_turns.true)

pub returns-then-count-eq0 : goal.returns-then-count-eq0
returns-then-count-eq0 c =
    cells-none c.args.line.now (sym c.is_barred.ensures ∙ c.if-not-is_barred.false) (sym c.takes_turns.ensures ∙ c.if-not-takes_turns.false)
    (sym c.count_left-count.ensures ∙ c.if-count-eq0.true)

pub returns-else-count-eq0 : goal.returns-else-count-eq0
returns-else-count-eq0 c =
    IsCount-barred c.args.line.now c.count_left-count.result (sym c.is_barred.ensures ∙ c.if-not-is_barred.false) (sym c.takes_turns.ensures ∙ c.if-not-takes_turns.false)
    c.count_left-count.ensures (omega arith)
