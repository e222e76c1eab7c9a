use Rattle.std.proofs.Common.{arith, sym, ◌-◌, ◌∙◌}
use Rattle.read_files.proofs.Ending.{last-tells, none-more, some-within}
use Rattle.read_files.proofs.faults.ends_in_fault.Goals as goal

pub returns-then-count-before : goal.returns-then-count-before
returns-then-count-before c = λ known more are before part. none-more c.args.events.now known more are (omega (arith, c.len-count.ensures, before, c.if-count-before.true))

pub returns-in-Some : goal.returns-in-Some
returns-in-Some c = λ known more are before part.
    c.is_fault.ensures
    ∙ last-tells c.args.events.now known more (c.len-count.result - 1) c.in-Some.event.now are (omega (arith, c.len-count.ensures, before, c.if-count-before.false))
    (omega (arith, c.len-count.ensures, c.if-count-before.false)) part (sym c.in-Some.ensures)

pub returns-in-None : goal.returns-in-None
returns-in-None c = λ known more are before part. absurd (some-within c.args.events.now (c.len-count.result - 1) (omega (arith, c.len-count.ensures, c.if-count-before.false)) c.in-None.ensures)
