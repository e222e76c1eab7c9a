use Rattle.std.proofs.Common.{◌++◌, ap, ◌∙◌}
use Rattle.verbs_base.proofs.Replacing.{given-all-of}
use Rattle.verbs_base.proofs.per_record.EachStateful.take_all.Goals as goal

pub returns-clause-gives : goal.returns-clause-gives
returns-clause-gives g c = record {
  gives = λ given sound.
      c.in_ok-append.ensures.events ∙ ap (λ more. c.args.out.now ++ more) (c.in_ok-replace_all.ensures.given ∙ given-all-of (g.V.PerRecord.gives c.args.self.now.verb) given c.args.events.now);
}
