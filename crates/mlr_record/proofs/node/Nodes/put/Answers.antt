use Rattle.std.proofs.Common.{◌≡◌, true, Some, None, ap, sym, subst, ◌∙◌}
use Rattle.std.proofs.lemmas.Result.{on_ok_weaker}
use Rattle.mlr_spec.specs.Pairs.{put_at, keys_of, are_distinct, value_at}
use Rattle.mlr_spec.proofs.Pairs.{are_distinct-put, put_at-none}
use Rattle.mlr_keys.specs.Keys.{Knows}
use Rattle.mlr_record.specs.NodeView.{node_of, children_in}
use Rattle.mlr_record.specs.Children.{IsChildOf}
use Rattle.mlr_record.proofs.Children.{child-absent, child-given, names-given}
use Rattle.mlr_record.proofs.node.Nodes.put.Goals as goal
use Rattle.mlr_record.proofs.node.Nodes.put.Goals.{After-give_node, In-None}

abbrev here : (c : After-give_node) → IsChildOf c.args.name.now c.self.inside.children.items (Some c.in-Some.place)
here c = subst (λ children. IsChildOf c.args.name.now children (Some c.in-Some.place)) c.deref.ensures.value c.in-Some.ensures

abbrev given : (c : After-give_node) → children_in c.give_node.new.children.items ≡ put_at c.args.name.now (node_of c.args.node) (children_in c.self.inside.children.items)
given c = child-given c.args.name.now c.self.inside.children.items c.in-Some.place c.args.node c.give_node.new.children.items (here c) c.give_node.ensures

absent : (c : In-None) → value_at c.args.name.now (children_in c.self.inside.children.items) ≡ None
absent c = child-absent c.args.name.now c.self.inside.children.items (subst (λ children. IsChildOf c.args.name.now children None) c.deref.ensures.value c.in-None.ensures)

pub place_of-requires : goal.place_of-requires
place_of-requires c = subst (λ children. Knows c.self.inside.places (keys_of (children_in children))) (sym c.deref.ensures.value) c.self.invariant.1

pub invariant_of-self : goal.invariant_of-self
invariant_of-self c = (
  subst (λ pairs. are_distinct (keys_of pairs) ≡ true) (sym (given c)) (are_distinct-put c.args.name.now (node_of c.args.node) (children_in c.self.inside.children.items) c.self.invariant.0),
  subst (Knows c.self.inside.places)
      (sym (names-given c.args.name.now c.self.inside.children.items c.in-Some.place c.args.node c.give_node.new.children.items (here c) c.give_node.ensures)) c.self.invariant.1,
)

pub push-requires : goal.push-requires
push-requires c = ap (value_at c.args.name.now) (sym c.self.view_is) ∙ absent (goal.at.push-requires c).In-None

pub returns-in-Some : goal.returns-in-Some
returns-in-Some c = given c ∙ ap (put_at c.args.name.now (node_of c.args.node)) c.self.view_is

pub returns-in-None : goal.returns-in-None
returns-in-None c =
    let name = c.args.name.now in
    let none = ap (value_at name) (sym c.self.view_is) ∙ absent (goal.at.returns-in-None c).In-None in
    on_ok_weaker c.push.result (λ pushed. pushed ∙ sym (put_at-none name (node_of c.args.node) _ none)) c.push.ensures
