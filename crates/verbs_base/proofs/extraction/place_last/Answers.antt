use Rattle.verbs_base.proofs.MovingLast.{last-absent, last-rotated}
use Rattle.verbs_base.proofs.extraction.place_last.Goals as goal

pub returns-in_default-clause-placed : goal.returns-in_default-clause-placed
returns-in_default-clause-placed c = last-absent c.args.name.now c.args.fields.now c.args.rest c.requires.within c.in_default.ensures

pub returns-clause-placed : goal.returns-clause-placed
returns-clause-placed c =
    last-rotated c.args.name.now c.args.fields.now c.args.rest c.requires.within c.in-Some.place c.rotate_left.new.self c.in-Some.ensures c.rotate_left.ensures.after
