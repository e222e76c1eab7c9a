use Rattle.std.proofs.Common.{inl, inr, sym, subst}
use Rattle.mlr_value.specs.Value.{tree_of}
use Rattle.mlr_json.specs.Turns.{IsRead}
use Rattle.verbs_values.proofs.Decoded.{decoded-value, decoded-syntax, decoded-deep}
use Rattle.verbs_values.proofs.json_values.json_decode.Goals as goal

pub returns-in-Ok : goal.returns-in-Ok
returns-in-Ok c = sym (decoded-value c.args.text.now (tree_of c.in-Ok.value) c.in-Ok.ensures.read)

pub returns-in-Syntax : goal.returns-in-Syntax
returns-in-Syntax c =
    elim c.in-Syntax.is [
      | inl fault ↦ sym (decoded-syntax c.args.text.now fault.0 (subst (IsRead c.args.text.now) fault.1 c.read_json_value.ensures.read))
      | inr fault ↦ sym (decoded-deep c.args.text.now fault.0 (subst (IsRead c.args.text.now) fault.1 c.read_json_value.ensures.read))
    ]
