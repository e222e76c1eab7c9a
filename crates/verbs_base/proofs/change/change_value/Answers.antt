use Rattle.std.proofs.Common.{◌≡◌, ℕ, List, [], length, ap, ◌∙◌, arith, length-set}
use Rattle.mlr_spec.specs.Tree.{Tree, absent}
use Rattle.mlr_value.specs.Value.{tree_of}
use Rattle.verbs_base.proofs.Changing.{value-changed}
use Rattle.verbs_base.proofs.change.change_value.Goals as goal

pub replace-requires : goal.replace-requires
replace-requires g c =
    let none : List ℕ × Tree = ([], absent) in
    let same : length c.replace-value.new.self ≡ length c.args.fields.now = ap length (c.replace-value.ensures.new none) ∙ length-set c.args.fields.now c.args.place _ in
    omega (arith, c.requires, same)

pub returns-clause-changed : goal.returns-clause-changed
returns-clause-changed g c pair =
    value-changed (g.C.Change.image c.args.change.now) c.args.fields.now c.replace-value.new.self c.replace.new.self c.args.place pair absent
    (tree_of c.replace-value.result) (tree_of c.in_ok-made.made) c.requires
    (c.replace-value.ensures.new pair) (c.replace-value.ensures.had pair) c.in_ok-made.ensures.made (c.replace.ensures.new pair)
