use Rattle.std.proofs.Common.{◌≡◌, ◌++◌, map}
use Rattle.verbs_sort.specs.Kept.{keys_in}
use Rattle.verbs_sort.proofs.sort.push_keys.Given as goal

-- the keys so far and those of the names that remain are all
abbrev pub invariant-loop-name : goal.invariant-loop-name
invariant-loop-name l =
    keys_in l.keys.items ++ map (λ name. (l.fn.flag.order, name)) l.name-iterator.rest.items
    ≡ keys_in l.fn.keys.items ++ map (λ name. (l.fn.flag.order, name)) l.fn.flag.names
