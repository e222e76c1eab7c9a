use Rattle.std.proofs.Common.{◌≡◌, take}
use Rattle.verbs_pattern.proofs.rename.copy_renamings.Given as goal

-- the renamings copied so far
abbrev pub invariant-loop-renaming : goal.invariant-loop-renaming
invariant-loop-renaming l = l.copies.items ≡ take l.renaming-index l.renamings
