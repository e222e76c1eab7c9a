use Rattle.std.proofs.Common.{◌≡◌, ◌++◌, drop}
use Rattle.std.specs.Prelude.{reverse}
use Rattle.verb_specs.specs.Verbs.{lefts_for}
use Rattle.plan_verbs.proofs.lefts.lefts_for.Given as goal

-- the entries so far, and those of the verbs that remain
abbrev pub invariant-loop-spec : goal.invariant-loop-spec
invariant-loop-spec l = l.lefts ++ lefts_for (drop l.spec-index l.spec-items) (reverse l.held.items) ≡ lefts_for l.spec-items l.fn.held.items
