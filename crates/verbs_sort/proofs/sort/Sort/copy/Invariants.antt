use Rattle.std.proofs.Common.{◌≡◌, take}
use Rattle.verbs_sort.proofs.sort.Sort.copy.Given as goal

-- the flags so far were copied
abbrev pub invariant-loop-flag : goal.invariant-loop-flag
invariant-loop-flag l = l.flags ≡ take l.flag-index l.self.flags
