use Rattle.std.proofs.Common.{◌≡◌, ℕ, ◌+◌, ◌<◌, List, ◌∷◌, drop, get_or, length, add-one, sym, subst, arith}
use Rattle.std.proofs.Math.Seq.{drop-cons}
use Rattle.std.proofs.lemmas.List.{drop-set-lt, drop_all}
use Rattle.group_state.specs.Grouped.{grouped}
use Rattle.group_state.specs.Represents.{EachHolds}
use Rattle.group_state.proofs.Holding.{Given, all-given, next-holds, none-given, one-given}
use Rattle.group_state.proofs.group_states.GroupStates.finish.Goals as goal

-- the states that are left begin with the one at the place
next : {S : Type 0} (states : List S) (i : ℕ) (default : S) → i < length states → drop i states ≡ get_or states i default ∷ drop (i + 1) states
next states i default below = rw add-one (drop-cons states i default below)

pub loop-state-init : goal.loop-state-init
loop-state-init g c = λ by late before held. (
    none-given g.S.AtEnd.gives g.S.AtEnd.holds late c.args.ctx (grouped by before) c.args.out.now c.deref_mut-state-items.result.now
    (subst (λ states. EachHolds g.S.AtEnd.gives g.S.AtEnd.holds late states (grouped by before)) (sym c.deref_mut-state-items.ensures.value) (c.take_states-states.ensures.states by late before held))
    )

pub finish-requires : goal.finish-requires
finish-requires g c =
    let by = c.requires.0 in
    let late = c.requires.1 in
    let groups = grouped by c.requires.2 in
    let states = c.loop-state.state-items in
    let i = c.loop-state.state-index in
    let left = next states i c.state-item.result (omega (arith, c.loop-state-test.true, c.loop-state.auto.state-items)) in
    next-holds g.S.AtEnd.gives g.S.AtEnd.holds late c.args.ctx groups c.args.out.now (get_or states i c.state-item.result) (drop (i + 1) states) c.loop-state.out
    (subst (λ left. Given g.S.AtEnd.gives g.S.AtEnd.holds late c.args.ctx groups c.args.out.now left c.loop-state.out) left (c.loop-state.invariant by late c.requires.2 c.requires.3))

pub loop-state-preserved : goal.loop-state-preserved
loop-state-preserved g c = λ by late before held. (
    let groups = grouped by before in
    let states = c.loop-state.state-items in
    let i = c.loop-state.state-index in
    let left = next states i c.state-item.result (omega (arith, c.loop-state-test.true, c.loop-state.auto.state-items)) in
    let given = subst (λ left. Given g.S.AtEnd.gives g.S.AtEnd.holds late c.args.ctx groups c.args.out.now left c.loop-state.out) left (c.loop-state.invariant by late before held) in
    subst (λ left. Given g.S.AtEnd.gives g.S.AtEnd.holds late c.args.ctx groups c.args.out.now left c.finish.new.out) (sym (drop-set-lt (i + 1) states i c.finish.new.self (omega arith)))
    (one-given g.S.AtEnd.gives g.S.AtEnd.holds late c.args.ctx groups c.args.out.now (get_or states i c.state-item.result) (drop (i + 1) states) c.loop-state.out c.finish.new.out given c.in_ok-finish.ensures.given)
    )

pub returns-clause-given : goal.returns-clause-given
returns-clause-given g c = λ by late before held. (
    let groups = grouped by before in
    let states = c.loop-state.state-items in
    let i = c.loop-state.state-index in
    let none = drop_all i states (omega (arith, c.loop-state-test.false, c.loop-state.auto.state-items)) in
    all-given g.S.AtEnd.gives g.S.AtEnd.holds late c.args.ctx groups c.args.out.now c.loop-state.out
    (subst (λ left. Given g.S.AtEnd.gives g.S.AtEnd.holds late c.args.ctx groups c.args.out.now left c.loop-state.out) none (c.loop-state.invariant by late before held))
    )
