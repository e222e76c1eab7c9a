use Rattle.std.proofs.Common.{rules, ◌≡◌, [], sym, subst, ◌∙◌}
use Rattle.std.proofs.lemmas.List.{nil_from_length}
use Rattle.plan_verbs.proofs.New.{Making, making-first, making-last, making-next, next-sound}
use Rattle.plan_verbs.proofs.chain.new_verbs.Goals as goal

pub loop-left-init : goal.loop-left-init
loop-left-init c =
    let specs = c.args.specs.now in
    let lefts = c.args.lefts.items in
    let none : c.in_ok-made.made.items ≡ [] = c.in_ok-made.ensures.items in
    let all : c.into_iter-left-iterator.result.rest.items ≡ lefts = search rules in
    subst (λ remaining. Making specs lefts c.in_ok-made.made.items 0 remaining) (sym all) (subst (λ made. Making specs lefts made 0 lefts) (sym none) (making-first specs lefts c.requires.sound c.requires.lefts))

pub push_new-requires : goal.push_new-requires
push_new-requires c =
    let specs = c.args.specs.now in
    let lefts = c.args.lefts.items in
    let made = c.loop-left.made.items in
    let now = subst (Making specs lefts made c.loop-left.place) c.in-Some.ensures.steps.0 c.loop-left.invariant in
    next-sound specs lefts made c.loop-left.place c.index-specs-place.result c.in-Some.left c.next.new.self.rest.items now c.index-specs-place.is

pub loop-left-preserved : goal.loop-left-preserved
loop-left-preserved c =
    let specs = c.args.specs.now in
    let lefts = c.args.lefts.items in
    let made = c.loop-left.made.items in
    let now = subst (Making specs lefts made c.loop-left.place) c.in-Some.ensures.steps.0 c.loop-left.invariant in
    making-next specs lefts made c.loop-left.place c.index-specs-place.result c.in-Some.left c.next.new.self.rest.items now c.index-specs-place.is
    c.push_new.new.made.items (c.in_ok-push_new.ensures now.done now.are_new)

pub returns : goal.returns
returns c =
    let now = c.loop-left.left-iterator.rest in
    making-last c.args.specs.now c.args.lefts.items c.loop-left.made.items c.loop-left.place
    (subst (Making c.args.specs.now c.args.lefts.items c.loop-left.made.items c.loop-left.place) (nil_from_length now.items (sym now.ok.0 ∙ c.in-None.ensures.steps.0)) c.loop-left.invariant)
