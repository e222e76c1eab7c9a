use Rattle.std.proofs.Common.{◌≡◌, true, Some, None, ap, sym, subst, ◌∙◌}
use Rattle.std.specs.Option.{unwrap_or}
use Rattle.mlr_spec.specs.Tree.{absent}
use Rattle.mlr_spec.specs.Flatten.{leaf}
use Rattle.mlr_spec.specs.Pairs.{value_at, put_at, keys_of, are_distinct}
use Rattle.mlr_spec.proofs.Pairs.{are_distinct-put}
use Rattle.mlr_keys.specs.Keys.{Knows}
use Rattle.mlr_record.specs.NodeView.{node_of, children_in}
use Rattle.mlr_record.specs.Children.{IsChildOf}
use Rattle.mlr_record.proofs.Named.{put_at-twice}
use Rattle.mlr_record.proofs.Children.{child-absent, child-found, child-written, names-written}
use Rattle.mlr_record.proofs.node.Nodes.take.Goals as goal

pub invariant_of-self : goal.invariant_of-self
invariant_of-self c =
    let name = c.args.name.now in
    let children = c.self.inside.children.items in
    let place = subst (λ children. IsChildOf name children (Some c.in-Some.place)) c.deref.ensures.value c.in-Some.ensures in
    let written = child-written name children c.in-Some.place c.index_mut.result.now c.index_mut.ensures.value place c.replace.new.dest in (
      subst (λ pairs. are_distinct (keys_of pairs) ≡ true) (sym written) (are_distinct-put name (node_of c.replace.new.dest) (children_in children) c.self.invariant.0),
      subst (Knows c.self.inside.places) (sym (names-written name children c.in-Some.place c.index_mut.result.now c.index_mut.ensures.value place.0 c.replace.new.dest)) c.self.invariant.1,
    )

pub place_of-requires : goal.place_of-requires
place_of-requires c = subst (λ children. Knows c.self.inside.places (keys_of (children_in children))) (sym c.deref.ensures.value) c.self.invariant.1

pub returns-in-Some-clause-taken : goal.returns-in-Some-clause-taken
returns-in-Some-clause-taken c =
    let name = c.args.name.now in
    let place = subst (λ children. IsChildOf name children (Some c.in-Some.place)) c.deref.ensures.value c.in-Some.ensures in
    let found = child-found name c.self.inside.children.items c.in-Some.place c.index_mut.result.now c.index_mut.ensures.value place in
    ap node_of c.replace.ensures.value
    ∙ sym (ap (λ o. unwrap_or o (leaf absent)) (ap (value_at name) (sym c.self.view_is) ∙ found))

pub returns-in-Some-clause-left : goal.returns-in-Some-clause-left
returns-in-Some-clause-left c node =
    let name = c.args.name.now in
    let children = c.self.inside.children.items in
    let place = subst (λ children. IsChildOf name children (Some c.in-Some.place)) c.deref.ensures.value c.in-Some.ensures in
    let written = child-written name children c.in-Some.place c.index_mut.result.now c.index_mut.ensures.value place c.replace.new.dest in
    ap (put_at name node) written
    ∙ put_at-twice name (node_of c.replace.new.dest) node (children_in children)
    ∙ ap (put_at name node) c.self.view_is

pub returns-in-None-clause-taken : goal.returns-in-None-clause-taken
returns-in-None-clause-taken c =
    let name = c.args.name.now in
    let none = subst (λ children. IsChildOf name children None) c.deref.ensures.value c.in-None.ensures in
    sym (ap (λ o. unwrap_or o (leaf absent)) (ap (value_at name) (sym c.self.view_is) ∙ child-absent name c.self.inside.children.items none))
