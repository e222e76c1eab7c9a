use Rattle.std.proofs.Common.{◌≡◌, ◌++◌, ap, ap₂, ◌∙◌}
use Rattle.std.proofs.lemmas.Result.{on_ok_weaker}
use Rattle.mlr_pattern.specs.Values.{sub_of}
use Rattle.regex.specs.Bytes.{regex_pattern}
use Rattle.verbs_base.specs.Records.{each, given_for_all, maps}
use Rattle.verbs_pattern.specs.SubFields.{changed_fields}
use Rattle.verbs_pattern.proofs.substitution.substitute_all.Goals as goal

pub returns-clause-gives : goal.returns-clause-gives
returns-clause-gives c =
    let made = ap₂ (λ re by. maps (changed_fields c.args.fields.now (sub_of c.args.which re by))) (c.in_ok-matcher.ensures.pattern ∙ ap regex_pattern c.deref.ensures) c.as_slice-by.ensures in
    on_ok_weaker c.search_each.result
    (λ all. record { gives = λ given holds. all.gives given holds ∙ ap (λ gives. c.args.out.now ++ given_for_all (each gives) given c.args.events.now) made })
    c.search_each.ensures.gives
