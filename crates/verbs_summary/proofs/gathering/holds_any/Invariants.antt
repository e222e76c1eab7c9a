use Rattle.std.proofs.Common.{◌≡◌, drop}
use Rattle.verbs_summary.specs.Shortened.{shortened}
use Rattle.verbs_summary.proofs.gathering.holds_any.Given as goal

-- the texts so far aren't held
abbrev pub invariant-loop-text : goal.invariant-loop-text
invariant-loop-text l = shortened (drop l.text-index l.texts) l.name ≡ shortened l.texts l.name
