use Rattle.std.proofs.Common.{true, set, sym, ap, ◌∙◌}
use Rattle.verbs_reshape.proofs.Marks.{marked, unmarked}
use Rattle.verbs_reshape.proofs.filling.mark_name.Goals as goal

pub returns-in-Some : goal.returns-in-Some
returns-in-Some c = λ names is. ap (λ had. set had c.in-Some.place true) is ∙ marked names c.args.name.now c.args.keys.now c.in-Some.place c.requires.distinct c.in-Some.ensures.place

pub returns-in_default : goal.returns-in_default
returns-in_default c = λ names is. is ∙ unmarked names c.args.name.now c.args.keys.now (sym c.in_default.ensures.found)
