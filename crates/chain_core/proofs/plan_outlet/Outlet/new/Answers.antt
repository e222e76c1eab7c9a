use Rattle.chain_core.proofs.Firsts.{first-is, none-is}
use Rattle.chain_core.proofs.plan_outlet.Outlet.new.Goals as goal

pub unreachable-requires : goal.unreachable-requires
unreachable-requires c = c.requires.styled (none-is c.args.plan.now.styles c.in-None.ensures)

pub returns : goal.returns
returns c =
    let first = first-is c.args.plan.now.styles c.in-Some.style.now c.in-Some.ensures in
    record { style = c.in-Some.style.now; rest = first.0; styles_are = first.1; represents = c.in_ok-new-in-Some.ensures }
