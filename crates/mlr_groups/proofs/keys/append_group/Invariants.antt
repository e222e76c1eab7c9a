use Rattle.std.proofs.Common.{◌≡◌, ◌++◌, drop}
use Rattle.std.specs.Option.{option_map}
use Rattle.mlr_groups.specs.Grouping.{group_of}
use Rattle.mlr_groups.specs.Keys.{key_of}
use Rattle.mlr_groups.proofs.keys.append_group.Given as goal

-- the key so far with the texts of the remaining names is the key of all of them
abbrev pub invariant-loop-name : goal.invariant-loop-name
invariant-loop-name l =
    option_map (λ texts. l.key ++ key_of texts) (group_of (drop l.name-index l.names) l.fields)
    ≡ option_map (λ texts. l.fn.key ++ key_of texts) (group_of l.names l.fields)
