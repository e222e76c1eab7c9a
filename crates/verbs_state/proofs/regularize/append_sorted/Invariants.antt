use Rattle.std.proofs.Common.{◌≡◌, ◌++◌, drop, map}
use Rattle.mlr_groups.specs.Keys.{key_of}
use Rattle.verbs_state.proofs.regularize.append_sorted.Given as goal

-- the key so far with the remaining names appended is the key of all names
abbrev pub invariant-loop-name : goal.invariant-loop-name
invariant-loop-name l = l.key ++ key_of (map (λ name. name.now) (drop l.name-index l.name-items)) ≡ l.fn.key ++ key_of (map (λ name. name.now) l.name-items)
