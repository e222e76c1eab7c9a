use Rattle.std.proofs.Common.{◌≡◌, ◌-◌, ◌+◌, ◌≤◌, ◌||◌, length, take, drop, ap, sym, ◌∙◌, arith}
use Rattle.std.proofs.lemmas.List.{take-take, drop-take, take_all, length-take-le}
use Rattle.mlr_value.specs.Stops.{has_stop}
use Rattle.mlr_value.proofs.Stopping.{split-overlapping}
use Rattle.mlr_value.proofs.short.Short.has_stop.Goals as goal

pub returns-then-has_stop_lane : goal.returns-then-has_stop_lane
returns-then-has_stop_lane c =
    let text = c.args.self.now in
    let stops = c.args.stops in
    let long : 16 ≤ length text = omega (arith, c.if-len-le-LANES.false, c.len-len.ensures.value) in
    let is : c.lanes-2.result ≡ take 16 text =
    sym (take_all 16 c.lanes-2.result (omega (arith, c.lanes-2.ensures.len))) ∙ c.lanes-2.ensures.prefix 16 long (omega arith) in
    let first = ap (has_stop stops) (sym is) ∙ sym c.has_stop_lane.ensures ∙ c.if-has_stop_lane.true in
    c.if-has_stop_lane.true
    ∙ sym (split-overlapping stops text 0 16 (omega arith) ∙ ap (λ t. t || has_stop stops text) first)

pub returns-else-has_stop_lane : goal.returns-else-has_stop_lane
returns-else-has_stop_lane c =
    let text = c.args.self.now in
    let stops = c.args.stops in
    let cells = c.self.inside.cells in
    let start = c.len-len.result - 16 in
    let long : 16 ≤ length text = omega (arith, c.if-len-le-LANES.false, c.len-len.ensures.value) in
    let is : c.lanes-2.result ≡ take 16 text =
    sym (take_all 16 c.lanes-2.result (omega (arith, c.lanes-2.ensures.len))) ∙ c.lanes-2.ensures.prefix 16 long (omega arith) in
    let first = ap (has_stop stops) (sym is) ∙ sym c.has_stop_lane.ensures ∙ c.if-has_stop_lane.false in
    let count = sym (ap length c.self.view_is) ∙ length-take-le c.self.inside.len cells (omega (arith, c.self.invariant.0, c.self.told)) in
    let len : c.self.inside.len ≡ start + 16 = omega (arith, count, long, c.len-len.ensures.value) in
    let rest : drop start text ≡ take 16 (drop start cells) =
    ap (drop start) (sym c.self.view_is ∙ ap (λ n. take n cells) len) ∙ drop-take start 16 cells in
    let last = take-take 16 (20 - start) (drop start cells) (omega (arith, c.len-len.ensures.bound)) in
    c.has_stop_lane-else-has_stop_lane.ensures ∙ ap (has_stop stops) (last ∙ sym rest)
    ∙ sym (split-overlapping stops text start 16 (omega (arith, c.len-len.ensures.bound)) ∙ ap (λ t. t || has_stop stops (drop start text)) first)
