use Rattle.std.proofs.Common.{◌≡◌, true, false, ◌++◌, ◌∷◌, [], map, None, sym, ap, ◌∙◌, subst}
use Rattle.std.specs.List.{list_any}
use Rattle.std.specs.Str.{bytes_eq}
use Rattle.std.proofs.lemmas.List.{map-append}
use Rattle.mlr_spec.specs.Pairs.{keys_of, are_distinct, value_at}
use Rattle.mlr_spec.proofs.Pairs.{are_distinct-push}
use Rattle.mlr_keys.specs.Keys.{Knows}
use Rattle.mlr_value.proofs.Places.{any-absent}
use Rattle.mlr_record.specs.declared.node.Child.{Child}
use Rattle.mlr_record.specs.NodeView.{node_of, child_of, children_in}
use Rattle.mlr_record.proofs.Children.{names-are}
use Rattle.mlr_record.proofs.node.Nodes.push.Goals as goal
use Rattle.mlr_record.proofs.node.Nodes.push.Goals.{After-deref}

-- the names that the index is asked of
asked : (c : After-deref) → map (λ child. child.name.now) c.deref.result.now ≡ keys_of (children_in c.self.inside.children.items)
asked c = ap (map (λ child. child.name.now)) (c.deref.ensures.value ∙ c.in_ok-reserve.ensures.items) ∙ names-are c.self.inside.children.items

none-there : (c : After-deref) → value_at c.args.name.now (children_in c.self.inside.children.items) ≡ None
none-there c = ap (value_at c.args.name.now) c.self.view_is ∙ c.requires

pub add-requires-clause-knows : goal.add-requires-clause-knows
add-requires-clause-knows c = subst (Knows c.self.inside.places) (sym (asked (goal.at.add-requires-clause-knows c).After-deref)) c.self.invariant.1

pub add-requires-clause-distinct : goal.add-requires-clause-distinct
add-requires-clause-distinct c = subst (λ keys. are_distinct keys ≡ true) (sym (asked (goal.at.add-requires-clause-distinct c).After-deref)) c.self.invariant.0

pub add-requires-clause-absent : goal.add-requires-clause-absent
add-requires-clause-absent c =
    let d = (goal.at.add-requires-clause-absent c).After-deref in
    subst (λ keys. list_any (bytes_eq c.args.name.now) keys ≡ false) (sym (asked d))
    (any-absent c.args.name.now (children_in c.self.inside.children.items) (none-there d))

pub invariant_of-self-in_err-add : goal.invariant_of-self-in_err-add
invariant_of-self-in_err-add c =
    let same = ap children_in c.in_ok-reserve.ensures.items in (
      subst (λ pairs. are_distinct (keys_of pairs) ≡ true) (sym same) c.self.invariant.0,
      subst (Knows c.add.new.self) (asked (goal.at.invariant_of-self-in_err-add c).After-deref ∙ sym (ap keys_of same)) c.in_err-add.ensures.err,
    )

pub invariant_of-self-2 : goal.invariant_of-self-2
invariant_of-self-2 c =
    let d = (goal.at.invariant_of-self-2 c).After-deref in
    let name = c.args.name.now in
    let node = node_of c.args.node in
    let children = c.self.inside.children.items in
    let child : Child = record { name = c.args.name; node = c.args.node } in
    let pushed : children_in c.push_reserved.new.self.items ≡ children_in children ++ (name, node) ∷ [] =
    ap children_in (c.push_reserved.ensures.items ∙ ap (λ t. t ++ child ∷ []) c.in_ok-reserve.ensures.items) ∙ map-append child_of children (child ∷ []) in (
      subst (λ pairs. are_distinct (keys_of pairs) ≡ true) (sym pushed) (are_distinct-push name node (children_in children) (none-there d) c.self.invariant.0),
      subst (Knows c.add.new.self)
          (ap (λ keys. keys ++ name ∷ []) (asked d) ∙ sym (ap keys_of pushed ∙ map-append (λ pair. pair.0) (children_in children) ((name, node) ∷ []))) c.in_ok-add.ensures.ok,
    )
