use Rattle.std.proofs.Common.{◌≡◌, take}
use Rattle.plan_verbs.proofs.plan.copy_styles.Given as goal

-- those so far
abbrev pub invariant-loop-style : goal.invariant-loop-style
invariant-loop-style l = l.copies ≡ take l.style-index l.styles
