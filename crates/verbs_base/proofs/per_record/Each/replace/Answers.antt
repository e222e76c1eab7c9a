use Rattle.std.proofs.Common.{ap, sym, ◌∙◌}
use Rattle.std.specs.Option.{option_to_list}
use Rattle.verbs_base.proofs.Replacing.{none-given, one-given, other-stays, still-within}
use Rattle.verbs_base.proofs.per_record.Each.replace.Goals as goal

pub returns-in_default-clause-replaced : goal.returns-in_default-clause-replaced
returns-in_default-clause-replaced g c =
    other-stays (g.V.PerRecord.gives c.args.self.now.verb) c.args.events.now c.args.place c.requires.within c.replace_fields.new.self c.of_fields-nothing.result c.in_default.ensures.had c.in_default.ensures.new

pub returns-in_default-2-clause-replaced : goal.returns-in_default-2-clause-replaced
returns-in_default-2-clause-replaced g c =
    none-given (g.V.PerRecord.gives c.args.self.now.verb) c.args.events.now c.args.place c.requires.within c.replace_fields.new.self c.of_fields-nothing.result c.in-Some.fields c.in-Some.ensures.had c.in-Some.ensures.new (sym (ap option_to_list c.in_default-2.is) ∙ c.in_ok-made.ensures.made)

pub replace_fields-requires-2 : goal.replace_fields-requires-2
replace_fields-requires-2 g c =
    still-within (g.V.PerRecord.gives c.args.self.now.verb) c.args.events.now c.args.place c.requires.within c.replace_fields.new.self c.of_fields-nothing.result c.in-Some.fields c.in-Some.ensures.had c.in-Some.ensures.new

pub returns-clause-replaced : goal.returns-clause-replaced
returns-clause-replaced g c =
    one-given (g.V.PerRecord.gives c.args.self.now.verb) c.args.events.now c.args.place c.requires.within c.replace_fields.new.self c.of_fields-nothing.result c.in-Some.fields c.in-Some.ensures.had c.in-Some.ensures.new c.in-Some-2.made (sym (ap option_to_list c.in-Some-2.is) ∙ c.in_ok-made.ensures.made) c.replace_fields-2.new.self c.replace_fields-2.ensures.new
