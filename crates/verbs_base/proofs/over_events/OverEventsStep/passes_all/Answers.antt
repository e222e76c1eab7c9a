use Rattle.verbs_base.specs.Laws.{verb-passes}
use Rattle.verbs_base.proofs.Passing.{passes-on}
use Rattle.verbs_base.proofs.over_events.OverEventsStep.passes_all.Goals as goal

pub returns : goal.returns
returns g c is =
    let verb = c.args.self.now.verb in
    let each = c.passes_each.ensures is in
    let law = verb-passes (g.V.Stateful.meaning verb) (g.V.Stateful.represents verb) each in
    record {
      same = law.same;
      unclosed = law.unclosed;
      keeps = λ given following holds. (holds.0, passes-on (g.V.Stateful.meaning verb) (g.V.Stateful.represents verb) each c.args.self.now.shut given following holds.1);
    }
