use Rattle.std.proofs.Common.{is_ok, ap, sym, subst, ◌∙◌}
use Rattle.mlr_spec.specs.Pairs.{keys_of}
use Rattle.mlr_value.specs.Value.{tree_of}
use Rattle.mlr_fields.specs.Marks.{AreMarked}
use Rattle.mlr_fields.proofs.Building.{keys-pushed, many-pushed}
use Rattle.mlr_fields.proofs.fields.Fields.push_marked.Goals as goal

pub invariant_of-self-2 : goal.invariant_of-self-2
invariant_of-self-2 c =
    let old = c.self.inside.record in
    let name = c.args.name.now in
    let value = tree_of c.args.value in (
      subst (AreMarked c.add.new.self) (sym (ap keys_of c.in_ok-push.ensures ∙ keys-pushed old name value)) (c.add.ensures (keys_of old) name c.self.invariant.0 c.requires.mark),
      many-pushed 64 c.self.inside.index old c.push.new.self (is_ok c.push.result) name value c.push.ensures c.self.invariant.1,
    )
