use Rattle.std.proofs.Common.{sym, subst, arith}
use Rattle.group_state.specs.Represents.{EachHolds}
use Rattle.verbs_count.specs.GroupCount.{GroupHolds, group_gives}
use Rattle.verbs_count.proofs.Sorting.{Given, all-given, next-holds, none-given, none-left, one-given}
use Rattle.verbs_count.proofs.frequent.give_each.Goals as goal

pub loop-state-init : goal.loop-state-init
loop-state-init c = λ late groups each. (
    none-given group_gives GroupHolds late c.args.ctx groups c.args.out.now c.into_iter-state-iterator.result.rest.items
    (subst (λ states. EachHolds group_gives GroupHolds late states groups) (sym c.into_iter-state-iterator.ensures.into_iter_gives.0) each)
    )

pub finish-requires : goal.finish-requires
finish-requires c =
    next-holds group_gives GroupHolds c.requires.0 c.args.ctx c.requires.1 c.args.out.now c.loop-state.state-iterator.rest.items c.in-Some.state c.next.new.self.rest.items c.loop-state.out
    c.in-Some.ensures.steps.0 (c.loop-state.invariant c.requires.0 c.requires.1 c.requires.2)

pub loop-state-preserved : goal.loop-state-preserved
loop-state-preserved c = λ late groups each.
    one-given group_gives GroupHolds late c.args.ctx groups c.args.out.now c.loop-state.state-iterator.rest.items c.in-Some.state c.next.new.self.rest.items c.loop-state.out
    c.in-Some.ensures.steps.0 (c.loop-state.invariant late groups each) c.finish.new.out c.in_ok-finish.ensures.given

pub loop-state-preserved-in_ok-finish : goal.loop-state-preserved-in_ok-finish
loop-state-preserved-in_ok-finish c = λ late groups each.
    one-given group_gives GroupHolds late c.args.ctx groups c.args.out.now c.loop-state.state-iterator.rest.items c.in-Some.state c.next.new.self.rest.items c.loop-state.out
    c.in-Some.ensures.steps.0 (c.loop-state.invariant late groups each) c.finish.new.out c.in_ok-finish.ensures.given

pub returns : goal.returns
returns c = λ late groups each. (
    let none = none-left c.loop-state.state-iterator.rest.items (omega (arith, c.in-None.ensures.steps.0, c.loop-state.state-iterator.rest.ok.0)) in
    all-given group_gives GroupHolds late c.args.ctx groups c.args.out.now c.loop-state.out
    (subst (λ left. Given group_gives GroupHolds late c.args.ctx groups c.args.out.now left c.loop-state.out) none (c.loop-state.invariant late groups each))
    )
