use Rattle.outlet.proofs.Putting.{one-appends}
use Rattle.outlet.proofs.outlet.Outlet.put_body.Goals as goal

pub returns-clause-appends : goal.returns-clause-appends
returns-clause-appends c opts before e at gives =
    one-appends opts before c.args.self.now (record { writer = c.take.new.self; text = c.take.new.out }) at e c.args.body gives c.in_ok-take.ensures.represents c.in_ok-take.ensures.adds c.in_ok-take.ensures.open
