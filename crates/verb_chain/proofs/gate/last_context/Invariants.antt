use Rattle.std.proofs.Common.{◌≡◌, ◌≤◌, take, length}
use Rattle.verb_chain.specs.Chain.{last_context}
use Rattle.mlr_event.specs.declared.event.Ctx.{Ctx}
use Rattle.verb_chain.proofs.gate.last_context.Given as goal

-- the events from `place` on have no context
abbrev pub invariant-loop-place : goal.invariant-loop-place
invariant-loop-place l = (l.place ≤ length l.fn.events) × ((ctx : Ctx) → last_context ctx l.fn.events ≡ last_context ctx (take l.place l.fn.events))

abbrev pub decreases-loop-place : goal.decreases-loop-place
decreases-loop-place l = l.place
