use Rattle.std.proofs.Common.{sym, ◌∙◌}
use Rattle.mlr_spec.specs.Infer.{is_negative, unsigned}
use Rattle.mlr_infer.proofs.Rows.{kind_of-some, no_number}
use Rattle.mlr_infer.proofs.inference.infer.Goals as goal

pub returns-then-not-may_begin_number : goal.returns-then-not-may_begin_number
returns-then-not-may_begin_number c =
    let text = c.args.text.now in
    let opts = c.args.opts in
    sym (kind_of-some opts text (sym c.is_empty.ensures ∙ c.if-is_empty.false) c.if-opts.false
    ∙ no_number opts.octal (is_negative text) (unsigned text) (c.may_begin_number.ensures c.if-not-may_begin_number.true))
