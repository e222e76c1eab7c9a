use Rattle.std.proofs.Common.{◌≡◌, ◌++◌, drop}
use Rattle.plan_verbs.specs.Plans.{left_files, left_files_from}
use Rattle.plan_verbs.proofs.lefts.left_files_of.Given as goal

-- the files so far, and those of the verbs that remain
abbrev pub invariant-loop-spec : goal.invariant-loop-spec
invariant-loop-spec l = l.files.items ++ left_files_from l.number (drop l.spec-index l.spec-items) ≡ left_files l.spec-items
