use Rattle.std.proofs.Common.{◌≡◌, ◌++◌}
use Rattle.verbs_sort.specs.Kept.{keys_in}
use Rattle.verbs_sort.specs.Sort.{keys_of_flags}
use Rattle.verbs_sort.proofs.sort.keys_of.Given as goal

-- the keys so far and those of the flags that remain are all
abbrev pub invariant-loop-flag : goal.invariant-loop-flag
invariant-loop-flag l = keys_in l.keys.items ++ keys_of_flags l.flag-iterator.rest.items ≡ keys_of_flags l.fn.flags
