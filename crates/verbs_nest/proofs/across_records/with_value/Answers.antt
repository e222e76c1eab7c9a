use Rattle.std.proofs.Common.{ap, sym, ◌∙◌}
use Rattle.mlr_spec.specs.JsonGrammar.{text_value}
use Rattle.mlr_spec.specs.Pairs.{put_at}
use Rattle.verbs_nest.proofs.Replacing.{value-replaced}
use Rattle.verbs_nest.proofs.across_records.with_value.Goals as goal

pub returns : goal.returns
returns c =
    let field = c.args.field.now in
    let fields = c.args.fields in
    c.in_ok-put.ensures ∙ ap (λ value. put_at field value fields) c.in_ok-copied_value.ensures
    ∙ sym (value-replaced field (text_value c.args.text.now) fields c.requires.there c.requires.distinct)
