use Rattle.std.proofs.Common.{ap, sym, ◌∙◌}
use Rattle.std.proofs.lemmas.Result.{on_ok_weaker}
use Rattle.mlr_spec.specs.Pairs.{value_at}
use Rattle.mlr_value.specs.Value.{tree_of}
use Rattle.verbs_join.proofs.Joining.{joined-none, joined-past, joined-some}
use Rattle.verbs_join.proofs.pairing.put_joined_field.Goals as goal

pub returns-in_default : goal.returns-in_default
returns-in_default c = sym (joined-past c.args.left.now c.args.into.now c.args.output.now c.args.options.now.left c.args.place (sym c.in_default.ensures))

pub returns-in-Some-get : goal.returns-in-Some-get
returns-in-Some-get c =
    let name = ap (λ name. value_at name c.args.left.now) (sym c.as_slice.ensures) in
    on_ok_weaker c.put.result
    (λ is. is ∙ sym (joined-some c.args.left.now c.args.into.now c.args.output.now c.args.options.now.left c.args.place c.in-Some.name.now (sym c.in-Some.ensures) (tree_of c.in-Some-get.value.now) (name ∙ sym c.in-Some-get.ensures)))
    c.put.ensures

pub returns-in-None : goal.returns-in-None
returns-in-None c =
    let name = ap (λ name. value_at name c.args.left.now) (sym c.as_slice.ensures) in
    sym (joined-none c.args.left.now c.args.into.now c.args.output.now c.args.options.now.left c.args.place c.in-Some.name.now (sym c.in-Some.ensures) (name ∙ sym c.in-None.ensures))
