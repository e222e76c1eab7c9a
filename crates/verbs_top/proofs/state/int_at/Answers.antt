use Rattle.std.proofs.Common.{sym, ◌∙◌}
use Rattle.std.proofs.lemmas.Result.{IfOk-weaker}
use Rattle.verbs_top.proofs.Columns.{int-there}
use Rattle.verbs_top.proofs.state.int_at.Goals as goal

pub returns-in-Some-get : goal.returns-in-Some-get
returns-in-Some-get c =
    let list = c.in-Some.ensures.lookup in
    let entry = c.in-Some-get.ensures.lookup in
    IfOk-weaker c.copy.result _ _
    (λ value copied. copied ∙ sym (int-there c.args.lists.now c.in-Some.list.now c.args.column c.deref.result.now c.in-Some-get.entry.now c.args.place list.3.0 list.1 c.deref.ensures.value entry.3.0 entry.1))
    c.copy.ensures
