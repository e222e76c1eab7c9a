use Rattle.std.proofs.Common.{◌-◌, take, sym, ◌∙◌, arith}
use Rattle.verb_chain.specs.Chain.{last_context}
use Rattle.verb_chain.proofs.Unclosed.{context-before, never-past}
use Rattle.verb_chain.proofs.gate.last_context.Goals as goal

pub returns-in-Some-context_in : goal.returns-in-Some-context_in
returns-in-Some-context_in c =
    let events = c.args.events.now in
    let place = c.loop-place.place in
    sym (c.in-Some-context_in.ensures (last_context c.args.other (take (place - 1) events)))
    ∙ sym (context-before events (place - 1) place c.in-Some.event.now (omega (arith, c.loop-place-test.true)) (sym c.in-Some.ensures) c.args.other)
    ∙ sym (c.loop-place.invariant.1 c.args.other)

pub loop-place-preserved-in_default-context_in : goal.loop-place-preserved-in_default-context_in
loop-place-preserved-in_default-context_in c =
    let events = c.args.events.now in
    let place = c.loop-place.place in (
      omega (arith, c.loop-place.invariant.0),
      λ ctx. c.loop-place.invariant.1 ctx
          ∙ context-before events (place - 1) place c.in-Some.event.now (omega (arith, c.loop-place-test.true)) (sym c.in-Some.ensures) ctx
          ∙ c.in_default-context_in.ensures (last_context ctx (take (place - 1) events)),
    )

pub loop-place-preserved : goal.loop-place-preserved
loop-place-preserved c = absurd (never-past c.args.events.now (c.loop-place.place - 1) (omega (arith, c.loop-place.invariant.0, c.loop-place-test.true)) (sym c.in_default.ensures))
